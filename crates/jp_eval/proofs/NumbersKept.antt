-- What holds of all numbers of a document holds of those of each node that a query lists.
use Rattle.std.proofs.Common.{◌≡◌, ℕ, zero, suc, ◌+◌, true, false, List, [], ◌∷◌, ◌++◌, Option, Some, None}
use Rattle.std.proofs.Common.{refl, subst}
use Rattle.std.specs.List.{AllByRecursion}
use Rattle.std.proofs.lemmas.Option.{same_Some}
use Rattle.std.proofs.lemmas.Slice.Eq.{bytes_eq-Decides}
use Rattle.jp_doc.specs.Json.{Text, text_eq, Json, null, truth, number, text, array, object, Items}
use Rattle.jp_doc.specs.Json.{no_items, add_item, Members, no_members, add_member}
use Rattle.jp_doc.specs.Location.{Step, name, index, Location, Node, node, child_at, member_at, item_at}
use Rattle.jp_doc.specs.NumbersWithin.{AllNumbers, AllNumbersOfItems, AllNumbersOfMembers}
use Rattle.jp_number.specs.Number.{Number}
use Rattle.jp_tree.specs.Tree as tree
use Rattle.jp_tree.specs.Tree.{Query, query, Segment, segment, Segments, no_segments, add_segment}
use Rattle.jp_tree.specs.Tree.{Selector, Selectors, no_selectors, add_selector}
use Rattle.jp_tree.specs.declared.tree.Start.TheVariants.{Root, Current}
use Rattle.jp_pattern.specs.Tests.{Tests}
use Rattle.jp_node.specs.Nodes.{child, children, children_at, item_nodes, member_nodes, descendants}
use Rattle.jp_node.specs.Nodes.{descendants_at, items_descendants, members_descendants, items_at}
use Rattle.jp_node.specs.Nodes.{node_if_some}
use Rattle.jp_eval.specs.Nodelist.{nodelist, through, segment_nodes, selected, select, holds, document_nodes}
use Rattle.jp_eval.proofs.Leading.{all_of_both, all_filtered, all_mapped, by_name}
use Rattle.jp_eval.proofs.Listed.{each_mapped}

module _ (P : Number → Type 0) where
  -- it holds of all numbers of the node's value
  abbrev Has : Node → Type 0
  Has n = AllNumbers P n.value

  item_has : (i : ℕ) (vs : Items) (w : Json) → AllNumbersOfItems P vs → item_at i vs ≡ Some w
      → AllNumbers P w
  item_has i no_items w r h = absurd cc
  item_has zero (add_item v vs) w r h = subst (AllNumbers P) (same_Some v w h) r.0
  item_has (suc i) (add_item v vs) w r h = item_has i vs w r.1 h

  member_has : (k : Text) (ms : Members) (w : Json) → AllNumbersOfMembers P ms → member_at k ms ≡ Some w
      → AllNumbers P w
  member_has k no_members w r h = absurd cc
  member_has k (add_member l v ms) w r h =
      by_name k l w v (member_at k ms) (text_eq k l) (bytes_eq-Decides k l).0 h
      (λ e d. subst (AllNumbers P) d r.0)
      (λ g. member_has k ms w r.1 g)

  child_has : (s : Step) (v w : Json) → AllNumbers P v → child_at s v ≡ Some w → AllNumbers P w
  child_has (name k) (object ms) w r h = member_has k ms w r h
  child_has (name k) null w r h = absurd cc
  child_has (name k) (truth b) w r h = absurd cc
  child_has (name k) (number x) w r h = absurd cc
  child_has (name k) (text s) w r h = absurd cc
  child_has (name k) (array vs) w r h = absurd cc
  child_has (index i) (array vs) w r h = item_has i vs w r h
  child_has (index i) null w r h = absurd cc
  child_has (index i) (truth b) w r h = absurd cc
  child_has (index i) (number x) w r h = absurd cc
  child_has (index i) (text s) w r h = absurd cc
  child_has (index i) (object ms) w r h = absurd cc

  items_have : (at : Location) (i : ℕ) (vs : Items) → AllNumbersOfItems P vs
      → AllByRecursion Has (item_nodes at i vs)
  items_have at i no_items r = tt
  items_have at i (add_item v vs) r = (r.0, items_have at (i + 1) vs r.1)

  members_have : (at : Location) (ms : Members) → AllNumbersOfMembers P ms
      → AllByRecursion Has (member_nodes at ms)
  members_have at no_members r = tt
  members_have at (add_member k v ms) r = (r.0, members_have at ms r.1)

  children_have_at : (at : Location) (v : Json) → AllNumbers P v → AllByRecursion Has (children_at at v)
  children_have_at at null r = tt
  children_have_at at (truth b) r = tt
  children_have_at at (number x) r = tt
  children_have_at at (text s) r = tt
  children_have_at at (array vs) r = items_have at 0 vs r
  children_have_at at (object ms) r = members_have at ms r

  children_have : (n : Node) → Has n → AllByRecursion Has (children n)
  children_have n r = children_have_at n.location n.value r

  mutual
    descendants_have : (at : Location) (v : Json) → AllNumbers P v → AllByRecursion Has (descendants_at at v)
    descendants_have at null r = (r, tt)
    descendants_have at (truth b) r = (r, tt)
    descendants_have at (number x) r = (r, tt)
    descendants_have at (text s) r = (r, tt)
    descendants_have at (array vs) r = (r, items_below_have at 0 vs r)
    descendants_have at (object ms) r = (r, members_below_have at ms r)

    items_below_have : (at : Location) (i : ℕ) (vs : Items) → AllNumbersOfItems P vs
        → AllByRecursion Has (items_descendants at i vs)
    items_below_have at i no_items r = tt
    items_below_have at i (add_item v vs) r =
        all_of_both Has (descendants_at (at ++ index i ∷ []) v) (items_descendants at (i + 1) vs)
        (descendants_have (at ++ index i ∷ []) v r.0) (items_below_have at (i + 1) vs r.1)

    members_below_have : (at : Location) (ms : Members) → AllNumbersOfMembers P ms
        → AllByRecursion Has (members_descendants at ms)
    members_below_have at no_members r = tt
    members_below_have at (add_member k v ms) r =
        all_of_both Has (descendants_at (at ++ name k ∷ []) v) (members_descendants at ms)
        (descendants_have (at ++ name k ∷ []) v r.0) (members_below_have at ms r.1)

  module _ (t : Tests) (root : Json) where
    some_has : (at : Location) (o : Option Json) → ((w : Json) → o ≡ Some w → AllNumbers P w)
        → AllByRecursion Has (node_if_some at o)
    some_has at None f = tt
    some_has at (Some w) f = (f w refl, tt)

    there_has : (s : Step) (n : Node) → Has n → AllByRecursion Has (child s n)
    there_has s n r = some_has _ (child_at s n.value) (λ w e. child_has s n.value w r e)

    places_have : (n : Node) (places : List ℕ) → Has n → AllByRecursion Has (items_at n places)
    places_have n places r =
        each_mapped Has (λ i. child (index i) n) (λ i. there_has (index i) n r) places

    select_has : (x : Selector) (n : Node) → Has n → AllByRecursion Has (select t root x n)
    select_has (tree.name k) n r = there_has (name k) n r
    select_has tree.wildcard n r = children_have n r
    select_has (tree.index i) n r = places_have n _ r
    select_has (tree.slice first past step) n r = places_have n _ r
    select_has (tree.filter x) n r = all_filtered Has (holds t root x) (children n) (children_have n r)

    selected_have : (xs : Selectors) (n : Node) → Has n → AllByRecursion Has (selected t root xs n)
    selected_have no_selectors n r = tt
    selected_have (add_selector x xs) n r = all_of_both Has (select t root x n) (selected t root xs n)
        (select_has x n r) (selected_have xs n r)

    segment_has : (s : Segment) (n : Node) → Has n → AllByRecursion Has (segment_nodes t root s n)
    segment_has (segment true xs) n r = all_mapped Has Has (selected t root xs)
        (λ m. selected_have xs m) (descendants n) (descendants_have n.location n.value r)
    segment_has (segment false xs) n r = selected_have xs n r

    through_have : (ss : Segments) (ns : List Node) → AllByRecursion Has ns
        → AllByRecursion Has (through t root ss ns)
    through_have no_segments ns r = r
    through_have (add_segment s ss) ns r =
        through_have ss _ (all_mapped Has Has (segment_nodes t root s) (λ n. segment_has s n) ns r)

    nodelist_has : (q : Query) (current : Node) → AllNumbers P root → Has current
        → AllByRecursion Has (nodelist t root q current)
    nodelist_has (query Root ss) current r h = through_have ss _ (r, tt)
    nodelist_has (query Current ss) current r h = through_have ss _ (h, tt)

  pub numbers_kept : (t : Tests) (q : Query) (root : Json) → AllNumbers P root
      → AllByRecursion (λ n. AllNumbers P n.value) (document_nodes t q root)
  numbers_kept t q root r = nodelist_has t root q (node [] root) r r
