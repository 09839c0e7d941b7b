-- A location that leads to a value, where arrays are short and names are scalar values, has steps as those of
-- `src/`, and so has one of a document.
use Rattle.std.proofs.Common.{◌≡◌, ℕ, zero, suc, ◌<◌, ◌≤◌, ◌^◌, Bool, true, false, ◌||◌, nat_lt}
use Rattle.std.proofs.Common.{if◌then◌else◌, Option, Some, [], ◌∷◌, length, refl, sym, subst, arith}
use Rattle.std.proofs.lemmas.Bool.{ltb-false}
use Rattle.std.proofs.lemmas.Slice.Eq.{bytes_eq-Decides}
use Rattle.serde_json.specs.View.{view}
use Rattle.jp_doc.specs.Document.{document_value}
use Rattle.jp_doc.specs.Json.{Text, text_eq, Json, null, truth, number, text, array, object, Items, no_items}
use Rattle.jp_doc.specs.Json.{add_item, Members, no_members, add_member, item_list}
use Rattle.jp_doc.specs.Location.{Step, name, index, Location, value_at, child_at, member_at, item_at}
use Rattle.jp_doc.specs.Reading.{max_items, has_long_array, items_have_long_array, members_have_long_array}
use Rattle.jp_doc.specs.declared.document.Document.{Document}
use Rattle.jp_doc.proofs.RisingProps.{had}
use Rattle.jp_doc.proofs.TextLaws.{value_has}
use Rattle.jp_tree.specs.Characters.{is_scalar}
use Rattle.jp_tree.specs.Parts.{Each}
use Rattle.jp_path.specs.PathQuery.{IsStep, AreSteps}
use Rattle.jp_path.proofs.OwnNode.{behind, items_within}
use Rattle.jp_path.proofs.ScalarNames.{HasScalarNames, ItemsHaveScalarNames, MembersHaveScalarNames}
use Rattle.jp_path.proofs.ScalarNames.{data_names}

neither : (x y : Bool) → (x || y) ≡ false → (x ≡ false) × (y ≡ false)
neither true y h = absurd cc
neither false y h = (refl, h)

-- names of scalar values, and short arrays
abbrev pub Kept : Json → Type 0
Kept v = HasScalarNames v × (has_long_array max_items v ≡ false)

-- a member that is found has a name of scalar values
member_by : (b : Bool) (k l : Text) (v x : Json) (rest : Option Json) → text_eq k l ≡ b → Each is_scalar l
    → Kept v → (if b then Some v else rest) ≡ Some x
    → (rest ≡ Some x → Kept x × Each is_scalar k) → Kept x × Each is_scalar k
member_by true k l v x rest is scalar kept found more =
    let same : k ≡ l = (bytes_eq-Decides k l).0 is in
    let value : v ≡ x = cc in
    (subst Kept value kept, subst (Each is_scalar) (sym same) scalar)
member_by false k l v x rest is scalar kept found more = more found

member_known : (k : Text) (ms : Members) (x : Json) → MembersHaveScalarNames ms
    → members_have_long_array max_items ms ≡ false → member_at k ms ≡ Some x → Kept x × Each is_scalar k
member_known k no_members x o n found = absurd cc
member_known k (add_member l v ms) x o n found =
    let parts = neither (has_long_array max_items v) (members_have_long_array max_items ms) n in
    member_by (text_eq k l) k l v x (member_at k ms) refl o.0 (o.1, parts.0) found
    (λ later. member_known k ms x o.2 parts.1 later)

item_known : (i : ℕ) (vs : Items) (x : Json) → ItemsHaveScalarNames vs
    → items_have_long_array max_items vs ≡ false → item_at i vs ≡ Some x → Kept x
item_known i no_items x o n found = absurd cc
item_known zero (add_item v vs) x o n found =
    let value : v ≡ x = cc in
    subst Kept value (o.0, (neither (has_long_array max_items v) (items_have_long_array max_items vs) n).0)
item_known (suc i) (add_item v vs) x o n found =
    item_known i vs x o.1 (neither (has_long_array max_items v) (items_have_long_array max_items vs) n).1
    found

short_index : (i : ℕ) (vs : Items) (x : Json) → nat_lt max_items (length (item_list vs)) ≡ false
    → item_at i vs ≡ Some x → i < 2 ^ 32
short_index i vs x short found =
    let below : i < length (item_list vs) = items_within i vs x found in
    let few : length (item_list vs) ≤ max_items = ltb-false max_items (length (item_list vs)) short in
    omega arith

child_known : (s : Step) (v x : Json) → Kept v → child_at s v ≡ Some x → Kept x × IsStep s
child_known (name k) null x kept found = absurd cc
child_known (name k) (truth b) x kept found = absurd cc
child_known (name k) (number z) x kept found = absurd cc
child_known (name k) (text t) x kept found = absurd cc
child_known (name k) (array vs) x kept found = absurd cc
child_known (name k) (object ms) x kept found = member_known k ms x kept.0 kept.1 found
child_known (index i) null x kept found = absurd cc
child_known (index i) (truth b) x kept found = absurd cc
child_known (index i) (number z) x kept found = absurd cc
child_known (index i) (text t) x kept found = absurd cc
child_known (index i) (object ms) x kept found = absurd cc
child_known (index i) (array vs) x kept found =
    let parts = neither (nat_lt max_items (length (item_list vs))) (items_have_long_array max_items vs) kept.1
    in (item_known i vs x kept.0 parts.1 found, short_index i vs x parts.0 found)

pub steps_known : (l : Location) (v w : Json) → Kept v → value_at l v ≡ Some w → AreSteps l
steps_known [] v w kept h = tt
steps_known (s ∷ l) v w kept h =
    behind (value_at l) (child_at s v) w h
    (λ x there further. let child = child_known s v x kept there in
    (child.1, steps_known l x w child.0 further))

pub document_steps : (d : Document) (l : Location) (w : Json) → value_at l (document_value d) ≡ Some w
    → AreSteps l
document_steps d l w h = steps_known l (document_value d) w
    (data_names (view d.root) (value_has d.root), (had d.root d.is_document).short_arrays) h
