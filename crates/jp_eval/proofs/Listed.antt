-- What a query lists stands where it says.
use Rattle.std.proofs.Common.{◌≡◌, ℕ, zero, suc, true, false, List, [], ◌∷◌, ◌++◌, Option, Some, None}
use Rattle.std.proofs.Common.{refl, subst}
use Rattle.std.specs.List.{flat_map, AllByRecursion}
use Rattle.std.proofs.lemmas.Option.{same_Some}
use Rattle.std.proofs.lemmas.Slice.Eq.{bytes_eq-Decides}
use Rattle.jp_doc.specs.Json.{Text, text_eq, Json, null, truth, number, text, array, object, Items}
use Rattle.jp_doc.specs.Json.{no_items, add_item, Members, no_members, add_member}
use Rattle.jp_doc.specs.Location.{Step, name, index, Location, Node, node, value_at, child_at, member_at}
use Rattle.jp_doc.specs.Location.{item_at}
use Rattle.jp_doc.specs.Rising.{IsRising, ItemsRise, MembersRise}
use Rattle.jp_tree.specs.Tree as tree
use Rattle.jp_tree.specs.Tree.{Query, query, Segment, segment, Segments, no_segments, add_segment}
use Rattle.jp_tree.specs.Tree.{Selector, Selectors, no_selectors, add_selector}
use Rattle.jp_tree.specs.declared.tree.Start.TheVariants.{Root, Current}
use Rattle.jp_pattern.specs.Tests.{Tests}
use Rattle.jp_node.specs.Nodes.{child, children, descendants, items_at, node_if_some}
use Rattle.jp_eval.specs.Nodelist.{nodelist, through, segment_nodes, selected, select, holds}
use Rattle.jp_eval.proofs.Leading.{Leads, all_of_both, all_filtered, all_mapped, by_name, leads_to}
use Rattle.jp_eval.proofs.Leading.{children_lead, descendants_lead}

item_rises : (i : ℕ) (vs : Items) (w : Json) → ItemsRise vs → item_at i vs ≡ Some w → IsRising w
item_rises i no_items w r h = absurd cc
item_rises zero (add_item v vs) w r h = subst IsRising (same_Some v w h) r.0
item_rises (suc i) (add_item v vs) w r h = item_rises i vs w r.1 h

member_rises : (k : Text) (ms : Members) (w : Json) → MembersRise ms → member_at k ms ≡ Some w
    → IsRising w
member_rises k no_members w r h = absurd cc
member_rises k (add_member l v ms) w r h =
    by_name k l w v (member_at k ms) (text_eq k l) (bytes_eq-Decides k l).0 h
    (λ e d. subst IsRising d r.0)
    (λ g. member_rises k ms w r.2 g)

child_rises : (s : Step) (v w : Json) → IsRising v → child_at s v ≡ Some w → IsRising w
child_rises (name k) (object ms) w r h = member_rises k ms w r h
child_rises (name k) null w r h = absurd cc
child_rises (name k) (truth b) w r h = absurd cc
child_rises (name k) (number x) w r h = absurd cc
child_rises (name k) (text s) w r h = absurd cc
child_rises (name k) (array vs) w r h = absurd cc
child_rises (index i) (array vs) w r h = item_rises i vs w r h
child_rises (index i) null w r h = absurd cc
child_rises (index i) (truth b) w r h = absurd cc
child_rises (index i) (number x) w r h = absurd cc
child_rises (index i) (text s) w r h = absurd cc
child_rises (index i) (object ms) w r h = absurd cc

pub each_mapped : {X Y : Type 0} (Q : Y → Type 0) (f : X → List Y) → ((x : X) → AllByRecursion Q (f x))
    → (xs : List X) → AllByRecursion Q (flat_map f xs)
each_mapped Q f each [] = tt
each_mapped Q f each (x ∷ xs) = all_of_both Q (f x) (flat_map f xs) (each x) (each_mapped Q f each xs)

module _ (t : Tests) (root : Json) where
  child_leads_by : (o : Option Json) (at : Location) (v : Json) (s : Step) → child_at s v ≡ o
      → value_at at root ≡ Some v → IsRising v → AllByRecursion (Leads root) (node_if_some (at ++ s ∷ []) o)
  child_leads_by None at v s e h r = tt
  child_leads_by (Some w) at v s e h r = (leads_to root at v w s h e (child_rises s v w r e), tt)

  child_leads : (s : Step) (n : Node) → Leads root n → AllByRecursion (Leads root) (child s n)
  child_leads s n l = child_leads_by (child_at s n.value) n.location n.value s refl l.there l.rises

  items_lead_at : (n : Node) (places : List ℕ) → Leads root n
      → AllByRecursion (Leads root) (items_at n places)
  items_lead_at n places l = each_mapped (Leads root) (λ i. child (index i) n)
      (λ i. child_leads (index i) n l) places

  select_leads : (x : Selector) (n : Node) → Leads root n
      → AllByRecursion (Leads root) (select t root x n)
  select_leads (tree.name k) n l = child_leads (name k) n l
  select_leads tree.wildcard n l = children_lead root n l
  select_leads (tree.index i) n l = items_lead_at n _ l
  select_leads (tree.slice first past step) n l = items_lead_at n _ l
  select_leads (tree.filter x) n l = all_filtered (Leads root) (holds t root x) (children n)
      (children_lead root n l)

  selected_lead : (xs : Selectors) (n : Node) → Leads root n
      → AllByRecursion (Leads root) (selected t root xs n)
  selected_lead no_selectors n l = tt
  selected_lead (add_selector x xs) n l = all_of_both (Leads root) (select t root x n)
      (selected t root xs n) (select_leads x n l) (selected_lead xs n l)

  segment_leads : (s : Segment) (n : Node) → Leads root n
      → AllByRecursion (Leads root) (segment_nodes t root s n)
  segment_leads (segment true xs) n l = all_mapped (Leads root) (Leads root) (selected t root xs)
      (λ m. selected_lead xs m) (descendants n) (descendants_lead root n l)
  segment_leads (segment false xs) n l = selected_lead xs n l

  through_leads : (ss : Segments) (ns : List Node) → AllByRecursion (Leads root) ns
      → AllByRecursion (Leads root) (through t root ss ns)
  through_leads no_segments ns l = l
  through_leads (add_segment s ss) ns l =
      through_leads ss _ (all_mapped (Leads root) (Leads root) (segment_nodes t root s)
      (λ n. segment_leads s n) ns l)

  pub nodelist_leads : (q : Query) (current : Node) → IsRising root → Leads root current
      → AllByRecursion (Leads root) (nodelist t root q current)
  nodelist_leads (query Root ss) current r l = through_leads ss _ (record { there = refl; rises = r }, tt)
  nodelist_leads (query Current ss) current r l = through_leads ss _ (l, tt)

there_only : (root : Json) (ns : List Node) → AllByRecursion (Leads root) ns
    → AllByRecursion (λ n. value_at n.location root ≡ Some n.value) ns
there_only root [] l = tt
there_only root (n ∷ ns) l = (l.0.there, there_only root ns l.1)

pub listed_where_it_stands : (t : Tests) (q : Query) (root : Json) → IsRising root
    → AllByRecursion (λ n. value_at n.location root ≡ Some n.value) (nodelist t root q (node [] root))
listed_where_it_stands t q root r =
    there_only root _ (nodelist_leads t root q (node [] root) r (record { there = refl; rises = r }))
