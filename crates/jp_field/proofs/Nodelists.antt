-- What the nodelist of a singular query of `@` has.
use Rattle.std.proofs.Common.{◌≡◌, ℕ, true, false, Bool, not, ◌&&◌, is_some, List, [], ◌∷◌, ◌++◌, map}
use Rattle.std.proofs.Common.{Option, Some, None}
use Rattle.std.proofs.Common.{ℤ, pos, negsuc, ◌≤◌, ◌-◌, ◌+◌, nat_lt, cond, length, arith, option_to_list}
use Rattle.std.proofs.Common.{option_and_then, refl, sym, ap, ◌∙◌, append-nil, flat_map}
use Rattle.std.proofs.lemmas.Option.{same_Some, none-some}
use Rattle.jp_doc.specs.Json.{Json, null, truth, number, text, array, object, item_list}
use Rattle.jp_doc.specs.Location as at
use Rattle.jp_doc.specs.Location.{Location, Node, node, item_of, member_of}
use Rattle.jp_tree.specs.Tree as tree
use Rattle.jp_tree.specs.Singular.{is_singular, each_is_singular, is_singular_segment, is_name_or_index}
use Rattle.jp_pattern.specs.Tests.{Tests}
use Rattle.jp_types.specs.Numbers.{whole_number}
use Rattle.jp_node.specs.Nodes.{child, items_at, node_if_some}
use Rattle.jp_node.specs.Selected.{index_places}
use Rattle.jp_eval.specs.Nodelist.{through, segment_nodes}
use Rattle.jp_output.specs.Rows.{Path, Step, member, item, field_value, first_in, step_value}
use Rattle.jp_field.specs.FieldText.{path_in, path_of, step_before, step_in}

-- a query has steps exactly where it is singular

both_some : (o : Option Step) (p : Option Path) → is_some (step_before o p) ≡ (is_some o && is_some p)
both_some None p = refl
both_some (Some s) None = refl
both_some (Some s) (Some path) = refl

selector_some : (x : tree.Selector) → is_some (step_in (tree.segment false (tree.add_selector x
    tree.no_selectors)))
    ≡ is_name_or_index x
selector_some (tree.name k) = refl
selector_some tree.wildcard = refl
selector_some (tree.index t) = refl
selector_some (tree.slice a b c) = refl
selector_some (tree.filter l) = refl

several_none : (x y : tree.Selector) (xs : tree.Selectors)
    → is_some (step_in (tree.segment false (tree.add_selector x (tree.add_selector y xs)))) ≡ false
several_none (tree.name k) y xs = refl
several_none tree.wildcard y xs = refl
several_none (tree.index t) y xs = refl
several_none (tree.slice a b c) y xs = refl
several_none (tree.filter l) y xs = refl

segment_some : (s : tree.Segment) → is_some (step_in s) ≡ is_singular_segment s
segment_some (tree.segment true xs) = refl
segment_some (tree.segment false tree.no_selectors) = refl
segment_some (tree.segment false (tree.add_selector x tree.no_selectors)) = selector_some x
segment_some (tree.segment false (tree.add_selector x (tree.add_selector y xs))) = several_none x y xs

segments_some : (ss : tree.Segments) → is_some (path_in ss) ≡ each_is_singular ss
segments_some tree.no_segments = refl
segments_some (tree.add_segment s ss) = both_some (step_in s) (path_in ss)
    ∙ ap (λ b. b && is_some (path_in ss)) (segment_some s)
    ∙ ap (λ b. is_singular_segment s && b) (segments_some ss)

pub singular_some : (q : tree.Query) → is_some (path_of q) ≡ is_singular q
singular_some (tree.query start ss) = segments_some ss

-- a step leads to one node, or to none

item_if : (n : Node) (at there : Location) (o : Option Json)
    → node_if_some at o ++ [] ≡ node_if_some at (first_in (node_if_some there o ++ []))
item_if n at there None = refl
item_if n at there (Some w) = refl

item_one : (n : Node) (places : List ℕ) → length places ≤ 1 → (at : Location)
    × (items_at n places ≡ node_if_some at (first_in (items_at (node [] n.value) places)))
item_one n [] h = ([], refl)
item_one n (i ∷ []) h = (
  n.location ++ at.index i ∷ [],
  item_if n (n.location ++ at.index i ∷ []) (at.index i ∷ []) (item_of i n.value),
)
item_one n (i ∷ j ∷ places) h = absurd (omega (arith, h))

one_or_none : (b : Bool) (i : ℕ) → length (cond b (i ∷ []) []) ≤ 1
one_or_none true i = omega arith
one_or_none false i = omega arith

places_one : (z : ℤ) (v : Json) → length (index_places z v) ≤ 1
places_one (pos i) (array vs) = one_or_none (nat_lt i (length (item_list vs))) i
places_one (negsuc i) (array vs) =
    one_or_none (nat_lt i (length (item_list vs))) (length (item_list vs) - (i + 1))
places_one z null = omega arith
places_one z (truth b) = omega arith
places_one z (number x) = omega arith
places_one z (text s) = omega arith
places_one z (object ms) = omega arith

module _ (tests : Tests) (root : Json) where
  step_nodes : (s : tree.Segment) (step : Step) (n : Node) → step_in s ≡ Some step → (at : Location)
      × (segment_nodes tests root s n ≡ node_if_some at (step_value step n.value))
  step_nodes (tree.segment false (tree.add_selector (tree.name k) tree.no_selectors)) step n e = (
    n.location ++ at.name k ∷ [],
    append-nil (child (at.name k) n)
        ∙ ap (λ x. node_if_some (n.location ++ at.name k ∷ []) (step_value x n.value))
        (same_Some (member k) step e),
  )
  step_nodes (tree.segment false (tree.add_selector (tree.index t) tree.no_selectors)) step n e =
      let one = item_one n (index_places (whole_number t) n.value) (places_one (whole_number t) n.value) in (
        one.0,
        append-nil (items_at n (index_places (whole_number t) n.value)) ∙ one.1
            ∙ ap (λ x. node_if_some one.0 (step_value x n.value)) (same_Some (item (whole_number t)) step e),
      )
  step_nodes (tree.segment true xs) step n e = absurd (none-some step e)
  step_nodes (tree.segment false tree.no_selectors) step n e = absurd (none-some step e)
  step_nodes (tree.segment false (tree.add_selector tree.wildcard xs)) step n e = absurd (none-some step e)
  step_nodes (tree.segment false (tree.add_selector (tree.slice a b c) xs)) step n e =
      absurd (none-some step e)
  step_nodes (tree.segment false (tree.add_selector (tree.filter l) xs)) step n e = absurd (none-some step e)
  step_nodes (tree.segment false (tree.add_selector (tree.name k) (tree.add_selector y xs))) step n e =
      absurd (none-some step e)
  step_nodes (tree.segment false (tree.add_selector (tree.index k) (tree.add_selector y xs))) step n e =
      absurd (none-some step e)

  through_none : (ss : tree.Segments) → through tests root ss [] ≡ []
  through_none tree.no_segments = refl
  through_none (tree.add_segment s ss) = through_none ss

  abbrev values : List Node → List Json
  values ns = map (λ (m : Node). m.value) ns

  abbrev Found : tree.Segments → Path → Type 0
  Found ss path = (n : Node) → values (through tests root ss (n ∷ [])) ≡ option_to_list (field_value path
      n.value)

  led : (ss : tree.Segments) (path : Path) (at : Location) (o : Option Json) → Found ss path
      → values (through tests root ss (node_if_some at o))
      ≡ option_to_list (option_and_then (field_value path) o)
  led ss path at None found = ap values (through_none ss)
  led ss path at (Some w) found = found (node at w)

  before : (s : tree.Segment) (ss : tree.Segments) (o : Option Step) (p : Option Path) (path : Path)
      → step_in s ≡ o → ((rest : Path) → p ≡ Some rest → Found ss rest) → step_before o p ≡ Some path
      → Found (tree.add_segment s ss) path
  before s ss None p path is found e n = absurd (none-some path e)
  before s ss (Some step) None path is found e n = absurd (none-some path e)
  before s ss (Some step) (Some rest) path is found e n =
      let one = step_nodes s step n is in
      ap (λ ns. values (through tests root ss ns)) (append-nil (segment_nodes tests root s n) ∙ one.1)
      ∙ led ss rest one.0 (step_value step n.value) (found rest refl)
      ∙ ap (λ x. option_to_list (field_value x n.value)) (same_Some (step ∷ rest) path e)

  pub nodes_of : (ss : tree.Segments) (path : Path) → path_in ss ≡ Some path → Found ss path
  nodes_of tree.no_segments path e n =
      ap (λ x. option_to_list (field_value x n.value)) (same_Some [] path e)
  nodes_of (tree.add_segment s ss) path e n =
      before s ss (step_in s) (path_in ss) path refl (λ rest is. nodes_of ss rest is) e n
