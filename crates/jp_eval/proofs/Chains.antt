-- Depth first is segment by segment.
use Rattle.std.proofs.Common.{◌≡◌, List, [], ◌∷◌, ◌++◌, map, Bool, true, false, cond, refl, ap, ◌∙◌}
use Rattle.std.proofs.Common.{append-nil}
use Rattle.std.proofs.lemmas.List.Concat.{flat_map-append}
use Rattle.std.specs.List.{filter, flat_map}
use Rattle.jp_doc.specs.Location.{Node}
use Rattle.jp_tree.specs.Tree as tree
use Rattle.jp_compiled.specs.Parts.{segment_in, segments_in, selector_in}
use Rattle.jp_compiled.specs.declared.query.CompiledSegment.{CompiledSegment, out-CompiledSegment}
use Rattle.jp_compiled.specs.declared.query.CompiledSelector.{CompiledSelector}
use Rattle.jp_eval.specs.inner.Base.{Base}
use Rattle.jp_node.specs.Nodes.{children, descendants}
use Rattle.jp_eval.specs.Nodelist as spec
use Rattle.jp_value.specs.RightTests.{tests}
use Rattle.jp_eval.specs.inner.Walk.{picked, picked_by, reached}
use Rattle.jp_node.proofs.Descent.{descend}
use Rattle.jp_eval.proofs.CompiledParts.{segment_is}

flat_map-flat_map : {X Y Z : Type 0} (f : Y → List Z) (g : X → List Y) (xs : List X)
    → flat_map f (flat_map g xs) ≡ flat_map (λ x. flat_map f (g x)) xs
flat_map-flat_map f g [] = refl
flat_map-flat_map f g (x ∷ xs) = flat_map-append f (g x) (flat_map g xs)
    ∙ ap (λ r. flat_map f (g x) ++ r) (flat_map-flat_map f g xs)

one_kept : {X : Type 0} (p : X → Bool) (b : Bool) (x : X) (rest : List X)
    → cond b (x ∷ rest) rest ≡ cond b (x ∷ []) [] ++ rest
one_kept p true x rest = refl
one_kept p false x rest = refl

module _ (base : Base) where
  through-append : (ss : tree.Segments) (xs ys : List Node) → spec.through tests base.root ss (xs ++ ys)
      ≡ spec.through tests base.root ss xs ++ spec.through tests base.root ss ys
  through-append tree.no_segments xs ys = refl
  through-append (tree.add_segment s ss) xs ys = ap (spec.through tests base.root ss)
      (flat_map-append (spec.segment_nodes tests base.root s) xs ys) ∙ through-append ss _ _

  through-none : (ss : tree.Segments) → spec.through tests base.root ss [] ≡ []
  through-none tree.no_segments = refl
  through-none (tree.add_segment s ss) = through-none ss

  pub reached-append : (ss : List CompiledSegment) (xs ys : List Node) → reached base ss (xs ++ ys)
      ≡ reached base ss xs ++ reached base ss ys
  unfolding reached
  reached-append ss xs ys = through-append (segments_in base.roots ss) xs ys

  pub reached-none : (ss : List CompiledSegment) → reached base ss [] ≡ []
  unfolding reached
  reached-none ss = through-none (segments_in base.roots ss)

  pub reached-end : (ns : List Node) → reached base [] ns ≡ ns
  unfolding reached
  reached-end ns = refl

  -- a segment, and then those behind it
  pub reached-step : (s : CompiledSegment) (ss : List CompiledSegment) (ns : List Node)
      → reached base (s ∷ ss) ns ≡ reached base ss (reached base (s ∷ []) ns)
  unfolding reached
  reached-step s ss ns = refl

  pub reached-flat_map : {X : Type 0} (ss : List CompiledSegment) (f : X → List Node) (xs : List X)
      → reached base ss (flat_map f xs) ≡ flat_map (λ x. reached base ss (f x)) xs
  reached-flat_map ss f [] = reached-none ss
  reached-flat_map ss f (x ∷ xs) = reached-append ss (f x) (flat_map f xs)
      ∙ ap (λ r. reached base ss (f x) ++ r) (reached-flat_map ss f xs)

  pub reached-each : (ss : List CompiledSegment) (ns : List Node)
      → reached base ss ns ≡ flat_map (λ n. reached base ss (n ∷ [])) ns
  reached-each ss [] = reached-none ss
  reached-each ss (n ∷ ns) = reached-append ss (n ∷ []) ns
      ∙ ap (λ r. reached base ss (n ∷ []) ++ r) (reached-each ss ns)

  pub reached-filter : (ss : List CompiledSegment) (p : Node → Bool) (ns : List Node)
      → reached base ss (filter p ns) ≡ flat_map (λ n. reached base ss (filter p (n ∷ []))) ns
  reached-filter ss p [] = reached-none ss
  reached-filter ss p (n ∷ ns) =
      ap (reached base ss) (one_kept p (p n) n (filter p ns))
      ∙ reached-append ss (filter p (n ∷ [])) (filter p ns)
      ∙ ap (λ r. reached base ss (filter p (n ∷ [])) ++ r) (reached-filter ss p ns)

  selected_is : (xs : List CompiledSelector) (n : Node)
      → spec.selected tests base.root (tree.selectors (map (selector_in base.roots) xs)) n
      ≡ picked_by base xs n
  unfolding picked
  selected_is [] n = refl
  selected_is (x ∷ xs) n = ap (λ r. picked base x n ++ r) (selected_is xs n)

  selected_each : (xs : List CompiledSelector) (ns : List Node)
      → flat_map (spec.selected tests base.root (tree.selectors (map (selector_in base.roots) xs))) ns
      ≡ flat_map (picked_by base xs) ns
  selected_each xs [] = refl
  selected_each xs (n ∷ ns) =
      ap (λ r. r ++ flat_map
      (spec.selected tests base.root (tree.selectors (map (selector_in base.roots) xs))) ns)
      (selected_is xs n) ∙ ap (λ r. picked_by base xs n ++ r) (selected_each xs ns)

  -- one segment from one node
  pub reached-plain : (s : CompiledSegment) (ss : List CompiledSegment) (n : Node)
      → (out-CompiledSegment s).deep ≡ false
      → reached base (s ∷ ss) (n ∷ []) ≡ reached base ss (picked_by base (out-CompiledSegment
      s).selectors.items n)
  unfolding reached
  reached-plain s ss n plain =
      let xs = (out-CompiledSegment s).selectors.items in
      ap (spec.through tests base.root (segments_in base.roots ss))
      (append-nil (spec.segment_nodes tests base.root (segment_in base.roots s) n)
      ∙ ap (λ t. spec.segment_nodes tests base.root t n) (segment_is base.roots s
      ∙ ap (λ b. tree.segment b (tree.selectors (map (selector_in base.roots) xs))) plain)
      ∙ selected_is xs n)

  pub reached-deep : (s : CompiledSegment) (ss : List CompiledSegment) (n : Node)
      → (out-CompiledSegment s).deep ≡ true
      → reached base (s ∷ ss) (n ∷ [])
      ≡ reached base ss (flat_map (picked_by base (out-CompiledSegment s).selectors.items) (descendants n))
  unfolding reached
  reached-deep s ss n deep =
      let xs = (out-CompiledSegment s).selectors.items in
      ap (spec.through tests base.root (segments_in base.roots ss))
      (append-nil (spec.segment_nodes tests base.root (segment_in base.roots s) n)
      ∙ ap (λ t. spec.segment_nodes tests base.root t n) (segment_is base.roots s
      ∙ ap (λ b. tree.segment b (tree.selectors (map (selector_in base.roots) xs))) deep)
      ∙ selected_each xs (descendants n))

  -- at the node, and then below each child
  pub reached-descend : (xs : List CompiledSelector) (ss : List CompiledSegment) (n : Node)
      → reached base ss (flat_map (picked_by base xs) (descendants n))
      ≡ reached base ss (picked_by base xs n) ++ flat_map
      (λ c. reached base ss (flat_map (picked_by base xs) (descendants c))) (children n)
  reached-descend xs ss n =
      ap (λ ds. reached base ss (flat_map (picked_by base xs) ds)) (descend n)
      ∙ reached-append ss (picked_by base xs n) _
      ∙ ap (λ r. reached base ss (picked_by base xs n) ++ r)
      (ap (reached base ss) (flat_map-flat_map (picked_by base xs) descendants (children n))
      ∙ reached-flat_map ss (λ c. flat_map (picked_by base xs) (descendants c)) (children n))
