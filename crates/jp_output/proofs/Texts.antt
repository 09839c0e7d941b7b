-- The compact text of a value, and what the JSON crate writes for it.
use Rattle.std.proofs.Common.{◌≡◌, ℕ, Bool, true, false, List, [], ◌∷◌, ◌++◌, refl, ap, sym, ◌∙◌}
use Rattle.std.proofs.Common.{append_assoc, pos, negsuc}
use Rattle.json.specs.Print.{token_text}
use Rattle.json.specs.Token.{boolean}
use Rattle.serde_json.specs.View.{view}
use Rattle.serde_json.specs.Written.{has_float, compact_text, comma_if}
use Rattle.serde_json.specs.Written as crate
use Rattle.serde_json.specs.declared.value.Value.{Value}
use Rattle.jp_doc.proofs.BackLaws.{value_back}
use Rattle.jp_doc.specs.Json.{Json, null, truth, number, text, array, object, Items, no_items, add_item}
use Rattle.jp_doc.specs.Json.{Members, no_members, add_member, value_of, number_data, data_of, items_data}
use Rattle.jp_doc.specs.Json.{members_data}
use Rattle.jp_doc.specs.NumbersWithin.{IsWhole, HasWholeNumbers, AllNumbersOfItems, AllNumbersOfMembers}
use Rattle.jp_doc.proofs.NumberLaws.{json_is_whole}
use Rattle.jp_number.specs.Number.{Number, whole, written, number_text}
use Rattle.jp_output.specs.OutputLine.{truth_text, quoted_text, value_text, items_text, further_items}
use Rattle.jp_output.specs.OutputLine.{members_text, further_members}

-- The text of the items that are left, and the closing bracket: behind a comma, where one stands before.
abbrev pub items_left : Bool → Items → List ℕ
items_left later no_items = 93 ∷ []
items_left later (add_item v vs) = comma_if later ++ (value_text v ++ items_left true vs)

-- the same of members, and the closing brace
abbrev pub members_left : Bool → Members → List ℕ
members_left later no_members = 125 ∷ []
members_left later (add_member k v ms) =
    comma_if later ++ (quoted_text k ++ 58 ∷ (value_text v ++ members_left true ms))

further_items_left : (vs : Items) → items_left true vs ≡ further_items vs ++ 93 ∷ []
further_items_left no_items = refl
further_items_left (add_item v vs) =
    ap (λ (t : List ℕ). 44 ∷ (value_text v ++ t)) (further_items_left vs)
    ∙ ap (λ (t : List ℕ). 44 ∷ t) (sym (append_assoc (value_text v) (further_items vs) (93 ∷ [])))

all_items_left : (vs : Items) → items_left false vs ≡ items_text vs ++ 93 ∷ []
all_items_left no_items = refl
all_items_left (add_item v vs) =
    ap (λ (t : List ℕ). value_text v ++ t) (further_items_left vs)
    ∙ sym (append_assoc (value_text v) (further_items vs) (93 ∷ []))

regroup : (name value rest end : List ℕ)
    → name ++ 58 ∷ (value ++ (rest ++ end)) ≡ (((name ++ 58 ∷ []) ++ value) ++ rest) ++ end
regroup name value rest end = simp append_assoc

further_members_left : (ms : Members) → members_left true ms ≡ further_members ms ++ 125 ∷ []
further_members_left no_members = refl
further_members_left (add_member k v ms) =
    ap (λ (t : List ℕ). 44 ∷ (quoted_text k ++ 58 ∷ (value_text v ++ t))) (further_members_left ms)
    ∙ ap (λ (t : List ℕ). 44 ∷ t) (regroup (quoted_text k) (value_text v) (further_members ms) (125 ∷ []))

all_members_left : (ms : Members) → members_left false ms ≡ members_text ms ++ 125 ∷ []
all_members_left no_members = refl
all_members_left (add_member k v ms) =
    ap (λ (t : List ℕ). quoted_text k ++ 58 ∷ (value_text v ++ t)) (further_members_left ms)
    ∙ regroup (quoted_text k) (value_text v) (further_members ms) (125 ∷ [])

pub array_left : (vs : Items) → value_text (array vs) ≡ 91 ∷ items_left false vs
array_left vs = ap (λ (t : List ℕ). 91 ∷ t) (sym (all_items_left vs))

pub object_left : (ms : Members) → value_text (object ms) ≡ 123 ∷ members_left false ms
object_left ms = ap (λ (t : List ℕ). 123 ∷ t) (sym (all_members_left ms))

-- the JSON crate writes the same

truth_same : (b : Bool) → truth_text b ≡ token_text (boolean b)
truth_same true = refl
truth_same false = refl

number_same : (x : Number) → IsWhole x → number_text x ≡ crate.number_text (number_data x)
number_same (whole (pos n)) w = refl
number_same (whole (negsuc n)) w = refl
number_same (written s) w = absurd w

mutual
  pub text_same : (v : Json) → HasWholeNumbers v → value_text v ≡ compact_text (data_of v)
  text_same null w = refl
  text_same (truth b) w = truth_same b
  text_same (number x) w = number_same x w
  text_same (text s) w = refl
  text_same (array vs) w = array_left vs ∙ ap (λ (t : List ℕ). 91 ∷ t) (items_same false vs w)
  text_same (object ms) w = object_left ms ∙ ap (λ (t : List ℕ). 123 ∷ t) (members_same false ms w)

  items_same : (later : Bool) (vs : Items) → AllNumbersOfItems IsWhole vs
      → items_left later vs ≡ crate.items_text later (items_data vs)
  items_same later no_items w = refl
  items_same later (add_item v vs) w =
      ap (λ (t : List ℕ). comma_if later ++ (t ++ items_left true vs)) (text_same v w.0)
      ∙ ap (λ (t : List ℕ). comma_if later ++ (compact_text (data_of v) ++ t)) (items_same true vs w.1)

  members_same : (later : Bool) (ms : Members) → AllNumbersOfMembers IsWhole ms
      → members_left later ms ≡ crate.members_text later (members_data ms)
  members_same later no_members w = refl
  members_same later (add_member k v ms) w =
      ap (λ (t : List ℕ). comma_if later ++ (quoted_text k ++ 58 ∷ (t ++ members_left true ms)))
      (text_same v w.0)
      ∙ ap (λ (t : List ℕ). comma_if later ++ (quoted_text k ++ 58 ∷ (compact_text (data_of v) ++ t)))
      (members_same true ms w.1)

-- and of what it has read as whole numbers, the same
pub view_text : (v : Value) → has_float (view v) ≡ false → compact_text (view v) ≡ value_text (value_of v)
view_text v h =
    ap compact_text (sym (value_back v h)) ∙ sym (text_same (value_of v) (json_is_whole (view v)))
