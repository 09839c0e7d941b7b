-- The one way that some queries have in every document.
use Rattle.std.proofs.Common.{◌≡◌, ℕ, ℤ, pos, negsuc, ◌<◌, ◌≤◌, ◌+◌, true, false, ◌&&◌, List, [], ◌∷◌}
use Rattle.std.proofs.Common.{◌++◌, length, map, get_or, drop, Option, Some, None, refl, sym, ap, ap₂, ◌∙◌}
use Rattle.std.proofs.Common.{append_assoc, append-nil}
use Rattle.std.specs.Prelude.{option_and_then}
use Rattle.std.proofs.lemmas.Bool.{and_parts, and_from, eqb-true}
use Rattle.std.proofs.lemmas.List.{at_drop_more, at_drop_all, map-append}
use Rattle.std.proofs.lemmas.Slice.Eq.{bytes_eq-Decides}
use Rattle.jp_node.proofs.Places.{free_place}
use Rattle.jp_node.specs.Selected.{index_places}
use Rattle.jp_compiled.specs.Parts.{Wanted, segment_in, segments_in, selector_in}
use Rattle.jp_compiled.specs.declared.query.CompiledSegment.{CompiledSegment, out-CompiledSegment}
use Rattle.jp_compiled.specs.declared.query.CompiledSelector.{CompiledSelector}
use Rattle.jp_doc.specs.Json.{Json}
use Rattle.jp_doc.specs.Location as at
use Rattle.jp_doc.specs.Location.{Step, Location, node, child_at, value_at}
use Rattle.jp_node.specs.Nodes.{node_if_some, child, items_at}
use Rattle.jp_node.specs.Links.{link_step, link_steps}
use Rattle.jp_node.specs.declared.link.Link.{Link}
use Rattle.jp_pattern.specs.Tests.{Tests}
use Rattle.jp_tree.specs.Tree as tree
use Rattle.jp_tree.specs.declared.tree.Start.{Start}
use Rattle.jp_tree.specs.declared.tree.Start.TheVariants as start
use Rattle.jp_types.specs.Numbers.{whole_number}
use Rattle.jp_eval.specs.Nodelist as spec
use Rattle.jp_eval.specs.declared.route.Route.{Route}
use Rattle.jp_eval.specs.inner.Routes.{is_place, is_step, is_single_step, is_route, is_routed, nodes_along}
use Rattle.jp_eval.proofs.CompiledParts.{segment_is}
use Rattle.jp_eval.proofs.OneNode.{one_is}

-- ---- the links are laid

-- a segment of one selector
pub single_step : (roots : List Wanted) (s : CompiledSegment) (xs : List CompiledSelector)
    (x : CompiledSelector) (t : Step)
    → (out-CompiledSegment s).deep ≡ false → xs ≡ (out-CompiledSegment s).selectors.items
    → 1 ≤ length xs → length xs < 2 → x ≡ get_or xs 0 x
    → is_step (selector_in roots x) t ≡ true → is_single_step (segment_in roots s) t ≡ true
single_step roots s xs x t plain items low high is h =
    ap (λ y. is_single_step y t) (segment_is roots s
    ∙ ap₂ (λ b ys. tree.segment b (tree.selectors (map (selector_in roots) ys))) plain
    (sym items ∙ one_is xs x low high is))
    ∙ h

-- what is left of the segments makes the way whole
abbrev pub Laid : List CompiledSegment → ℕ → List Link → Type 0
Laid ss i path = (roots : List Wanted) (ts : Location)
    → is_route (segments_in roots (drop i ss)) ts ≡ true
    → is_route (segments_in roots ss) (link_steps path ++ ts) ≡ true

pub laid_more : (ss : List CompiledSegment) (i : ℕ) (s : CompiledSegment) (path more : List Link) (l : Link)
    → i < length ss → s ≡ get_or ss i s → more ≡ path ++ l ∷ []
    → ((roots : List Wanted) → is_single_step (segment_in roots s) (link_step l) ≡ true)
    → Laid ss i path → Laid ss (i + 1) more
laid_more ss i s path more l h is e step inv roots ts rest =
    ap (λ ls. is_route (segments_in roots ss) (ls ++ ts)) (ap link_steps e
    ∙ map-append link_step path (l ∷ []))
    ∙ ap (is_route (segments_in roots ss)) (append_assoc (link_steps path) (link_step l ∷ []) ts)
    ∙ inv roots (link_step l ∷ ts)
    (at_drop_more (λ xs. is_route (segments_in roots xs) (link_step l ∷ ts)) ss i s h
    ∙ ap (λ x. is_single_step (segment_in roots x) (link_step l)
    && is_route (segments_in roots (drop (i + 1) ss)) ts) (sym is)
    ∙ and_from (is_single_step (segment_in roots s) (link_step l))
    (is_route (segments_in roots (drop (i + 1) ss)) ts) (step roots) rest)

pub laid_whole : (ss : List CompiledSegment) (i : ℕ) (path : List Link) → length ss ≤ i → Laid ss i path
    → (roots : List Wanted) → is_route (segments_in roots ss) (link_steps path) ≡ true
laid_whole ss i path h inv roots =
    ap (is_route (segments_in roots ss)) (sym (append-nil (link_steps path)))
    ∙ inv roots [] (at_drop_all (λ xs. is_route (segments_in roots xs) []) ss i h)

-- ---- and lead to the node

place_is : (z : ℤ) (i : ℕ) → is_place z i ≡ true → z ≡ pos i
place_is (pos n) i h = ap pos (eqb-true n i h)
place_is (negsuc n) i h = absurd cc

module _ (tests : Tests) (root : Json) where
  item_stepped : (t : tree.Text) (i : ℕ) (l : Location) (v : Json) → is_place (whole_number t) i ≡ true
      → spec.select tests root (tree.index t) (node l v) ≡ child (at.index i) (node l v)
  item_stepped t i l v h = ap (λ z. items_at (node l v) (index_places z v)) (place_is (whole_number t) i h)
      ∙ sym (free_place l v i)
      ∙ append-nil (child (at.index i) (node l v))

  selector_stepped : (x : tree.Selector) (s : Step) (l : Location) (v : Json) → is_step x s ≡ true
      → spec.select tests root x (node l v) ≡ child s (node l v)
  selector_stepped (tree.name k) (at.name m) l v h =
      ap (λ y. child (at.name y) (node l v)) ((bytes_eq-Decides k m).0 h)
  selector_stepped (tree.name k) (at.index i) l v h = absurd cc
  selector_stepped (tree.index t) (at.index i) l v h = item_stepped t i l v h
  selector_stepped (tree.index t) (at.name m) l v h = absurd cc
  selector_stepped tree.wildcard s l v h = absurd cc
  selector_stepped (tree.slice first past step) s l v h = absurd cc
  selector_stepped (tree.filter f) s l v h = absurd cc

  segment_stepped : (g : tree.Segment) (s : Step) (l : Location) (v : Json) → is_single_step g s ≡ true
      → spec.segment_nodes tests root g (node l v) ≡ child s (node l v)
  segment_stepped (tree.segment false (tree.add_selector x tree.no_selectors)) s l v h =
      append-nil (spec.select tests root x (node l v)) ∙ selector_stepped x s l v h
  segment_stepped (tree.segment false tree.no_selectors) s l v h = absurd cc
  segment_stepped (tree.segment false (tree.add_selector x (tree.add_selector y xs))) s l v h = absurd cc
  segment_stepped (tree.segment true xs) s l v h = absurd cc

  none_through : (ss : tree.Segments) → spec.through tests root ss [] ≡ []
  none_through tree.no_segments = refl
  none_through (tree.add_segment s ss) = none_through ss

  -- segments that have a route find the node at its end, if there is one
  along_from : (ss : tree.Segments) (l ts : Location) (o : Option Json) → is_route ss ts ≡ true
      → spec.through tests root ss (node_if_some l o)
      ≡ node_if_some (l ++ ts) (option_and_then (value_at ts) o)
  along_from tree.no_segments l [] None h = refl
  along_from tree.no_segments l [] (Some v) h = ap (λ m. node m v ∷ []) (sym (append-nil l))
  along_from tree.no_segments l (t ∷ ts) o h = absurd cc
  along_from (tree.add_segment s ss) l [] o h = absurd cc
  along_from (tree.add_segment s ss) l (t ∷ ts) None h = none_through ss
  along_from (tree.add_segment s ss) l (t ∷ ts) (Some v) h =
      let parts = and_parts (is_single_step s t) (is_route ss ts) h in
      ap (spec.through tests root ss) (append-nil (spec.segment_nodes tests root s (node l v))
      ∙ segment_stepped s t l v parts.0)
      ∙ along_from ss (l ++ t ∷ []) ts (child_at t v) parts.1
      ∙ ap (λ m. node_if_some m (option_and_then (value_at ts) (child_at t v)))
      (append_assoc l (t ∷ []) ts)

-- so does a query
pub along_route : (tests : Tests) (q : Start) (ss : tree.Segments) (ts : Location) (root : Json)
    → is_route ss ts ≡ true → spec.document_nodes tests (tree.query q ss) root ≡ nodes_along ts root
along_route tests start.Root ss ts root h = along_from tests root ss [] ts (Some root) h
along_route tests start.Current ss ts root h = along_from tests root ss [] ts (Some root) h

-- the route of some segments is that of the same in a query
pub same_route : (roots : List Wanted) (ss ts : List CompiledSegment) (r : Route) → ss ≡ ts
    → is_routed (segments_in roots ss) r ≡ true → is_routed (segments_in roots ts) r ≡ true
same_route roots ss ts r e h = ap (λ xs. is_routed (segments_in roots xs) r) (sym e) ∙ h
