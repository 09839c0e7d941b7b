-- The query of a path selects just its node.
use Rattle.std.proofs.Common.{◌≡◌, ℕ, zero, suc, ◌<◌, [], ◌∷◌, ◌++◌, length, Option, Some, None, refl, ap}
use Rattle.std.proofs.Common.{◌∙◌, arith, map, append_assoc}
use Rattle.std.specs.Prelude.{pos, option_and_then}
use borrow.Author.Tests.{lt-ltb}
use Rattle.std.proofs.lemmas.List.{append-nil}
use Rattle.std.proofs.lemmas.Option.{same_Some}
use Rattle.std.specs.List.{flat_map}
use Rattle.jp_doc.specs.Json.{Json, null, truth, number, text, array, object, Items, no_items, add_item}
use Rattle.jp_doc.specs.Json.{item_list}
use Rattle.jp_doc.specs.Location.{Step, name, index, Location, Node, node, value_at, child_at, item_of}
use Rattle.jp_doc.specs.Location.{item_at}
use Rattle.jp_tree.specs.Tree.{segments}
use Rattle.jp_pattern.specs.Tests.{Tests}
use Rattle.jp_node.specs.Nodes.{node_if_some, items_at}
use Rattle.jp_node.specs.Selected.{index_places}
use Rattle.jp_eval.specs.Nodelist.{through, segment_nodes, select, document_nodes}
use Rattle.jp_path.proofs.IndexText.{decimal_is_whole}
use Rattle.jp_path.specs.PathQuery.{step_selector, step_segment, path_query, IsIndex, AreIndexes}

pub items_within : (i : ℕ) (vs : Items) (w : Json) → item_at i vs ≡ Some w → i < length (item_list vs)
items_within i no_items w h = absurd cc
items_within zero (add_item v vs) w h = omega arith
items_within (suc i) (add_item v vs) w h = let below : i < length (item_list vs) =
    items_within i vs w h in omega arith

places_of_item : (i : ℕ) (v w : Json) → item_of i v ≡ Some w → index_places (pos i) v ≡ i ∷ []
places_of_item i (array vs) w h = rw (lt-ltb _ _ (items_within i vs w h)) refl
places_of_item i null w h = absurd cc
places_of_item i (truth b) w h = absurd cc
places_of_item i (number x) w h = absurd cc
places_of_item i (text s) w h = absurd cc
places_of_item i (object ms) w h = absurd cc

-- where there is a value behind two steps, there is one behind the first
pub behind : {X Y P : Type 0} (f : X → Option Y) (o : Option X) (y : Y) → option_and_then f o ≡ Some y
    → ((x : X) → o ≡ Some x → f x ≡ Some y → P) → P
behind f None y h k = absurd cc
behind f (Some x) y h k = k x refl h

module _ (t : Tests) (root : Json) where
  step_lists : (s : Step) (n : Node) (w : Json) → IsIndex s → child_at s n.value ≡ Some w
      → select t root (step_selector s) n ≡ node (n.location ++ s ∷ []) w ∷ []
  step_lists (name k) n w small h = ap (node_if_some (n.location ++ name k ∷ [])) h
  step_lists (index i) n w small h =
      ap (λ z. items_at n (index_places z n.value)) (decimal_is_whole i small)
      ∙ ap (items_at n) (places_of_item i n.value w h)
      ∙ ap (λ o. node_if_some (n.location ++ index i ∷ []) o ++ []) h

  segment_lists : (s : Step) (n : Node) (w : Json) → IsIndex s → child_at s n.value ≡ Some w
      → flat_map (segment_nodes t root (step_segment s)) (n ∷ []) ≡ node (n.location ++ s ∷ []) w ∷ []
  segment_lists s n w small h = ap (λ ns. (ns ++ []) ++ []) (step_lists s n w small h)

  path_through : (l : Location) (n : Node) (v : Json) → AreIndexes l → value_at l n.value ≡ Some v
      → through t root (segments (map step_segment l)) (n ∷ []) ≡ node (n.location ++ l) v ∷ []
  path_through [] n v small h =
      let e : n.value ≡ v = same_Some n.value v h in
      let a : n.location ++ [] ≡ n.location = append-nil n.location in
      rw (a, ← e) refl
  path_through (s ∷ l) n v small h =
      behind (value_at l) (child_at s n.value) v h
      (λ w there further.
      ap (through t root (segments (map step_segment l))) (segment_lists s n w small.0 there)
      ∙ path_through l (node (n.location ++ s ∷ []) w) v small.1 further
      ∙ ap (λ at. node at v ∷ []) (append_assoc n.location (s ∷ []) l))

  pub own_node : (at : Location) (v : Json) → AreIndexes at → value_at at root ≡ Some v
      → document_nodes t (path_query at) root ≡ node at v ∷ []
  own_node at v small h = path_through at (node [] root) v small h
