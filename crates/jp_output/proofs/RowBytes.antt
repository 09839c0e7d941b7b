-- Rows: which bytes stand in them, and how often a tab and a line feed do.
use Rattle.std.proofs.Common.{◌≡◌, ℕ, zero, suc, cond, Bool, true, false, List, [], ◌∷◌, ◌++◌, length, refl}
use Rattle.std.proofs.Common.{sym, arith, subst, Option, Some, None, option_and_then, append_assoc}
use Rattle.std.proofs.lemmas.Option.{same_Some}
use Rattle.jp_doc.specs.Json.{Text, text_eq, Json, null, truth, number, text, array, object, Items}
use Rattle.jp_doc.specs.Json.{no_items, add_item, Members, no_members, add_member}
use Rattle.jp_doc.specs.Location.{Location, Node, node, index, member_at, item_at, member_of, item_of}
use Rattle.jp_doc.specs.NumbersWithin.{HasJsonNumbers, AllNumbersOfItems, AllNumbersOfMembers, IsJsonNumber}
use Rattle.jp_node.specs.Nodes.{items_at, node_if_some}
use Rattle.jp_node.specs.Selected.{index_places}
use Rattle.jp_output.proofs.FieldBytes.{IsField}
use Rattle.jp_output.proofs.Fields.{field_lacks, times_both, times_first, times_none, unquoted_field}
use Rattle.jp_output.specs.Fields.{times, IsOneLine}
use Rattle.jp_output.specs.Rows.{Step, member, item, Path, first_in, step_value, field_value, field_text}
use Rattle.jp_output.specs.Rows.{field_at, behind_tabs, row}

item_has : (i : ℕ) (vs : Items) (w : Json) → AllNumbersOfItems IsJsonNumber vs → item_at i vs ≡ Some w
    → HasJsonNumbers w
item_has i no_items w r h = absurd cc
item_has zero (add_item v vs) w r h = subst HasJsonNumbers (same_Some v w h) r.0
item_has (suc i) (add_item v vs) w r h = item_has i vs w r.1 h

-- the value of a member whose name is tried, and of those behind it
by_name : (b : Bool) (v w : Json) (behind : Option Json) → HasJsonNumbers v
    → (behind ≡ Some w → HasJsonNumbers w) → cond b (Some v) behind ≡ Some w → HasJsonNumbers w
by_name true v w behind r g h = subst HasJsonNumbers (same_Some v w h) r
by_name false v w behind r g h = g h

member_has : (k : Text) (ms : Members) (w : Json) → AllNumbersOfMembers IsJsonNumber ms
    → member_at k ms ≡ Some w → HasJsonNumbers w
member_has k no_members w r h = absurd cc
member_has k (add_member l v ms) w r h =
    by_name (text_eq k l) v w (member_at k ms) r.0 (λ g. member_has k ms w r.1 g) h

item_of_has : (i : ℕ) (v w : Json) → HasJsonNumbers v → item_of i v ≡ Some w → HasJsonNumbers w
item_of_has i (array vs) w r h = item_has i vs w r h
item_of_has i null w r h = absurd cc
item_of_has i (truth b) w r h = absurd cc
item_of_has i (number x) w r h = absurd cc
item_of_has i (text s) w r h = absurd cc
item_of_has i (object ms) w r h = absurd cc

member_of_has : (k : Text) (v w : Json) → HasJsonNumbers v → member_of k v ≡ Some w → HasJsonNumbers w
member_of_has k (object ms) w r h = member_has k ms w r h
member_of_has k null w r h = absurd cc
member_of_has k (truth b) w r h = absurd cc
member_of_has k (number x) w r h = absurd cc
member_of_has k (text s) w r h = absurd cc
member_of_has k (array vs) w r h = absurd cc

-- the first of the items at these places
first_of_has : (at : Location) (o : Option Json) (ns : List Node) (w : Json)
    → ((x : Json) → o ≡ Some x → HasJsonNumbers x) → (first_in ns ≡ Some w → HasJsonNumbers w)
    → first_in (node_if_some at o ++ ns) ≡ Some w → HasJsonNumbers w
first_of_has at None ns w g f h = f h
first_of_has at (Some x) ns w g f h = g w h

first_has : (v w : Json) (places : List ℕ) → HasJsonNumbers v
    → first_in (items_at (node [] v) places) ≡ Some w → HasJsonNumbers w
first_has v w [] r h = absurd cc
first_has v w (i ∷ places) r h =
    first_of_has (index i ∷ []) (item_of i v) (items_at (node [] v) places) w
    (λ x e. item_of_has i v x r e) (λ g. first_has v w places r g) h

step_has : (s : Step) (v w : Json) → HasJsonNumbers v → step_value s v ≡ Some w → HasJsonNumbers w
step_has (member k) v w r h = member_of_has k v w r h
step_has (item i) v w r h = first_has v w (index_places i v) r h

then_has : (found : Json → Option Json) (o : Option Json) (w : Json)
    → ((x : Json) → o ≡ Some x → HasJsonNumbers x)
    → ((x : Json) → HasJsonNumbers x → found x ≡ Some w → HasJsonNumbers w)
    → option_and_then found o ≡ Some w → HasJsonNumbers w
then_has found None w g f h = absurd cc
then_has found (Some x) w g f h = f x (g x refl) h

field_has : (ss : Path) (v w : Json) → HasJsonNumbers v → field_value ss v ≡ Some w → HasJsonNumbers w
field_has [] v w r h = subst HasJsonNumbers (same_Some v w h) r
field_has (s ∷ ss) v w r h =
    then_has (field_value ss) (step_value s v) w (λ x e. step_has s v x r e) (λ x q g. field_has ss x w q g) h

text_is : (o : Option Json) → ((x : Json) → o ≡ Some x → HasJsonNumbers x) → IsField (field_text o)
text_is None g = tt
text_is (Some x) g = unquoted_field x (g x refl)

module _ (v : Json) (r : HasJsonNumbers v) where
  -- no byte below the space stands in a field
  field_is : (f : Path) → IsField (field_at v f)
  field_is f = text_is (field_value f v) (λ x e. field_has f v x r e)

  tabs_behind : (fs : List Path) → times 9 (behind_tabs fs v) ≡ length fs
  tabs_behind [] = times_none 9
  tabs_behind (f ∷ fs) = omega (
    arith,
    times_both 9 (9 ∷ field_at v f) (behind_tabs fs v),
    times_first 9 9 (field_at v f),
    field_lacks 9 (field_at v f) (omega arith) (field_is f),
    tabs_behind fs,
  )

  feeds_behind : (fs : List Path) → times 10 (behind_tabs fs v) ≡ 0
  feeds_behind [] = times_none 10
  feeds_behind (f ∷ fs) = omega (
    arith,
    times_both 10 (9 ∷ field_at v f) (behind_tabs fs v),
    times_first 10 9 (field_at v f),
    field_lacks 10 (field_at v f) (omega arith) (field_is f),
    feeds_behind fs,
  )

pub row_tabs : (f : Path) (fs : List Path) (v : Json) → HasJsonNumbers v → times 9 (row (f ∷ fs) v) ≡ length
    fs
row_tabs f fs v r = omega (
  arith,
  times_both 9 (field_at v f) (behind_tabs fs v ++ 10 ∷ []),
  times_both 9 (behind_tabs fs v) (10 ∷ []),
  times_first 9 10 [],
  times_none 9,
  field_lacks 9 (field_at v f) (omega arith) (field_is v r f),
  tabs_behind v r fs,
)

pub row_one_line : (fs : List Path) (v : Json) → HasJsonNumbers v → IsOneLine (row fs v)
row_one_line [] v r = record {
  line_feeds = omega (arith, times_first 10 10 [], times_none 10);
  ends = ([], refl);
}
row_one_line (f ∷ fs) v r = record {
  line_feeds = omega (
    arith,
    times_both 10 (field_at v f) (behind_tabs fs v ++ 10 ∷ []),
    times_both 10 (behind_tabs fs v) (10 ∷ []),
    times_first 10 10 [],
    times_none 10,
    field_lacks 10 (field_at v f) (omega arith) (field_is v r f),
    feeds_behind v r fs,
  );
  ends = (
    field_at v f ++ behind_tabs fs v,
    sym (append_assoc (field_at v f) (behind_tabs fs v) (10 ∷ [])),
  );
}
