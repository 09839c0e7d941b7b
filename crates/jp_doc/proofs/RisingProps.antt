-- That names rise is a fact with at most one proof.
use mathlib.Core.Logic.{∥∥₁_elim}
use Rattle.std.proofs.Props.{props}
use Rattle.std.specs.Ordering.{Ordering-set}
use Rattle.serde_json.specs.declared.value.Value.{Value}
use Rattle.jp_doc.specs.DocumentValue.{IsDocumentValue}
use Rattle.jp_doc.specs.Json.{Text, value_of, Json, null, truth, number, text, array, object, Items, no_items}
use Rattle.jp_doc.specs.Json.{add_item, Members, no_members, add_member}
use Rattle.jp_doc.specs.Rising.{IsBelow, IsRising, ItemsRise, MembersRise}

below_prop : (k : Text) (ms : Members) → IsProp (IsBelow k ms)
below_prop k no_members = hlevel props
below_prop k (add_member l v ms) = hlevel (props, Ordering-set)

mutual
  pub rising_prop : (v : Json) → IsProp (IsRising v)
  rising_prop null = hlevel props
  rising_prop (truth b) = hlevel props
  rising_prop (number x) = hlevel props
  rising_prop (text s) = hlevel props
  rising_prop (array vs) = items_rise_prop vs
  rising_prop (object ms) = members_rise_prop ms

  items_rise_prop : (vs : Items) → IsProp (ItemsRise vs)
  items_rise_prop no_items = hlevel props
  items_rise_prop (add_item v vs) = hlevel (rising_prop v, items_rise_prop vs)

  members_rise_prop : (ms : Members) → IsProp (MembersRise ms)
  members_rise_prop no_members = hlevel props
  members_rise_prop (add_member k v ms) = hlevel (rising_prop v, below_prop k ms, members_rise_prop ms)

-- what a document has on the quiet
pub had : (v : Value) → ∥ IsDocumentValue v ∥₁ → IsDocumentValue v
had v h = ∥∥₁_elim h (hlevel (props, rising_prop (value_of v))) (λ p. p)
