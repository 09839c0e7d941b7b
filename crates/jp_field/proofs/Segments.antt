-- The steps of compiled segments.
use Rattle.std.proofs.Common.{◌≡◌, ◌<◌, ◌≤◌, ◌+◌, ◌⊎◌, inl, inr, ℕ, true, false, List, [], ◌∷◌, ◌++◌}
use Rattle.std.proofs.Common.{length, get_or, drop, map}
use Rattle.std.proofs.Common.{Option, Some, None, option_map, refl, sym, ap, ◌∙◌, arith, append_assoc}
use Rattle.std.proofs.Common.{append-nil, rules}
use Rattle.std.proofs.lemmas.List.{at_drop_more, at_drop_all, map-append}
use Rattle.jp_tree.specs.Tree as tree
use Rattle.jp_compiled.specs.Parts.{Wanted, segment_in, segments_in, selector_in}
use Rattle.jp_compiled.specs.declared.query.CompiledSegment.{CompiledSegment, out-CompiledSegment, the_lemmas}
use Rattle.jp_compiled.specs.declared.query.CompiledSelector.{CompiledSelector}
use Rattle.jp_output.specs.Rows.{Path, Step, step_of}
use Rattle.jp_output.specs.declared.field.FieldStep.{FieldStep}
use Rattle.jp_field.specs.FieldText.{path_in, step_before, step_in}

pub segment_is : (roots : List Wanted) (s : CompiledSegment)
    → segment_in roots s ≡ tree.segment (out-CompiledSegment s).deep
    (tree.selectors (map (selector_in roots) (out-CompiledSegment s).selectors.items))
segment_is roots s = search (rules, the_lemmas)

one_is : (xs : List CompiledSelector) (x : CompiledSelector) → 1 ≤ length xs → length xs < 2
    → x ≡ get_or xs 0 x → xs ≡ x ∷ []
one_is [] x low high is = absurd (omega arith)
one_is (y ∷ []) x low high is = ap (λ z. z ∷ []) (sym is)
one_is (y ∷ z ∷ xs) x low high is = absurd (omega arith)

several : (x y : tree.Selector) (xs : tree.Selectors)
    → step_in (tree.segment false (tree.add_selector x (tree.add_selector y xs))) ≡ None
several (tree.name k) y xs = refl
several tree.wildcard y xs = refl
several (tree.index t) y xs = refl
several (tree.slice a b c) y xs = refl
several (tree.filter l) y xs = refl

-- of one selector
pub step_of_one : (roots : List Wanted) (s : CompiledSegment) (xs : List CompiledSelector) (x :
    CompiledSelector)
    (o : Option Step) → (out-CompiledSegment s).deep ≡ false → xs ≡ (out-CompiledSegment s).selectors.items
    → 1 ≤ length xs → length xs < 2 → x ≡ get_or xs 0 x
    → step_in (tree.child (selector_in roots x ∷ [])) ≡ o → step_in (segment_in roots s) ≡ o
step_of_one roots s xs x o plain items low high is step =
    ap step_in (segment_is roots s
    ∙ ap (λ d. tree.segment d (tree.selectors (map (selector_in roots) (out-CompiledSegment
    s).selectors.items)))
    plain
    ∙ ap (λ ys. tree.segment false (tree.selectors (map (selector_in roots) ys)))
    (sym items ∙ one_is xs x low high is)) ∙ step

none_of : (roots : List Wanted) (xs : List CompiledSelector) → (length xs < 1) ⊎ (2 ≤ length xs)
    → step_in (tree.segment false (tree.selectors (map (selector_in roots) xs))) ≡ None
none_of roots [] h = refl
none_of roots (x ∷ []) (inl h) = absurd (omega (arith, h))
none_of roots (x ∷ []) (inr h) = absurd (omega (arith, h))
none_of roots (x ∷ y ∷ xs) h = several (selector_in roots x) (selector_in roots y)
    (tree.selectors (map (selector_in roots) xs))

-- of another number of them
pub step_of_others : (roots : List Wanted) (s : CompiledSegment) (xs : List CompiledSelector)
    → (out-CompiledSegment s).deep ≡ false → xs ≡ (out-CompiledSegment s).selectors.items
    → (length xs < 1) ⊎ (2 ≤ length xs) → step_in (segment_in roots s) ≡ None
step_of_others roots s xs plain items other =
    ap step_in (segment_is roots s
    ∙ ap (λ d. tree.segment d (tree.selectors (map (selector_in roots) (out-CompiledSegment
    s).selectors.items)))
    plain
    ∙ ap (λ ys. tree.segment false (tree.selectors (map (selector_in roots) ys))) (sym items))
    ∙ none_of roots xs other

-- of a descendant segment
pub step_of_deep : (roots : List Wanted) (s : CompiledSegment) → (out-CompiledSegment s).deep ≡ true
    → step_in (segment_in roots s) ≡ None
step_of_deep roots s deep =
    ap step_in (segment_is roots s
    ∙ ap (λ d. tree.segment d (tree.selectors (map (selector_in roots) (out-CompiledSegment
    s).selectors.items)))
    deep)

-- the steps before others
abbrev pub path_behind : List FieldStep → Option Path → Option Path
path_behind steps o = option_map (λ path. map step_of steps ++ path) o

behind_step : (steps : List FieldStep) (s : FieldStep) (o : Option Path)
    → path_behind steps (step_before (Some (step_of s)) o) ≡ path_behind (steps ++ s ∷ []) o
behind_step steps s None = refl
behind_step steps s (Some path) =
    ap Some (sym (append_assoc (map step_of steps) (step_of s ∷ []) path)
    ∙ ap (λ (m : Path). m ++ path) (sym (map-append step_of steps (s ∷ []))))

module _ (roots : List Wanted) (ss : List CompiledSegment) (i : ℕ) where
  -- one segment more has its step
  pub one_more : (s : CompiledSegment) (steps more : List FieldStep) (step : FieldStep) → i < length ss
      → s ≡ get_or ss i s → step_in (segment_in roots s) ≡ Some (step_of step) → more ≡ steps ++ step ∷ []
      → path_behind steps (path_in (segments_in roots (drop i ss)))
      ≡ path_behind more (path_in (segments_in roots (drop (i + 1) ss)))
  one_more s steps more step h is has put =
      ap (path_behind steps)
      (at_drop_more (λ ts. path_in (segments_in roots ts)) ss i s h
      ∙ ap (λ t. path_in (segments_in roots (t ∷ drop (i + 1) ss))) (sym is)
      ∙ ap (λ o. step_before o (path_in (segments_in roots (drop (i + 1) ss)))) has)
      ∙ behind_step steps step (path_in (segments_in roots (drop (i + 1) ss)))
      ∙ ap (λ m. path_behind m (path_in (segments_in roots (drop (i + 1) ss)))) (sym put)

  -- a segment has none
  pub no_step : (s : CompiledSegment) (steps : List FieldStep) → i < length ss → s ≡ get_or ss i s
      → step_in (segment_in roots s) ≡ None
      → path_behind steps (path_in (segments_in roots (drop i ss))) ≡ None
  no_step s steps h is none =
      ap (path_behind steps)
      (at_drop_more (λ ts. path_in (segments_in roots ts)) ss i s h
      ∙ ap (λ t. path_in (segments_in roots (t ∷ drop (i + 1) ss))) (sym is)
      ∙ ap (λ o. step_before o (path_in (segments_in roots (drop (i + 1) ss)))) none)

  -- the end
  pub no_more : (steps : List FieldStep) → length ss ≤ i
      → path_behind steps (path_in (segments_in roots (drop i ss))) ≡ Some (map step_of steps)
  no_more steps h =
      ap (path_behind steps) (at_drop_all (λ ts. path_in (segments_in roots ts)) ss i h)
      ∙ ap Some (append-nil (map step_of steps))

-- with no step before
pub none_behind : (o : Option Path) → path_behind [] o ≡ o
none_behind None = refl
none_behind (Some path) = refl
