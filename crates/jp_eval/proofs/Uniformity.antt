-- An expression that asks nothing of the current node is true of every node or of none.
use Rattle.std.proofs.Common.{◌≡◌, List, [], ◌∷◌, ◌++◌, true, false, not, ◌||◌, ◌&&◌, cond}
use Rattle.std.proofs.Common.{refl, sym, ap, ap₂, ◌∙◌}
use Rattle.std.proofs.lemmas.Bool.{and_parts}
use Rattle.std.specs.List.{filter, flat_map}
use Rattle.jp_doc.specs.Json.{Json}
use Rattle.jp_doc.specs.Location.{Node}
use Rattle.jp_tree.specs.Tree.{Query, query, Logical as Tree, any, all, negation, comparing, test, test_call}
use Rattle.jp_tree.specs.Tree.{Comparison, comparison, Comparable, literal, single, value_call, Call, call}
use Rattle.jp_tree.specs.Tree.{Argument, literal_argument, query_argument, logical_argument, call_argument}
use Rattle.jp_tree.specs.Tree.{Logicals, no_logicals, add_logical, Arguments, no_arguments, add_argument}
use Rattle.jp_tree.specs.declared.tree.Start.TheVariants.{Root, Current}
use Rattle.jp_types.specs.Functions.{function_named}
use Rattle.jp_compiled.specs.Uniform.{is_rooted, is_uniform, all_uniform, comparison_uniform, side_uniform}
use Rattle.jp_compiled.specs.Uniform.{call_uniform, arguments_uniform, argument_uniform}
use Rattle.jp_compiled.specs.declared.query.CompiledLogical.{CompiledLogical}
use Rattle.jp_compiled.specs.declared.query.CompiledSegment.{CompiledSegment}
use Rattle.jp_compiled.specs.declared.query.CompiledSelector.{CompiledSelector}
use Rattle.jp_compiled.specs.declared.query.CompiledSelector.TheVariants as sel
use Rattle.jp_value.specs.Comparison.{compared}
use Rattle.jp_value.specs.Functions.{is_empty, first_value, as_truth, as_value, called_if_known}
use Rattle.jp_value.specs.Functions.{handed_nodes, handed_truth}
use Rattle.jp_pattern.specs.Tests.{Tests}
use Rattle.jp_node.specs.Nodes.{children}
use Rattle.jp_eval.specs.Nodelist as spec
use Rattle.jp_eval.specs.inner.Base.{Base}
use Rattle.jp_eval.specs.inner.Walk.{picked, reached, is_true}
use Rattle.jp_eval.proofs.Chains.{reached-none, reached-filter}
use Rattle.jp_eval.proofs.CompiledParts.{picked_filter}

module _ (tests : Tests) (root : Json) (n other : Node) where
  rooted_alike : (q : Query) → is_rooted q ≡ true
      → spec.nodelist tests root q n ≡ spec.nodelist tests root q other
  rooted_alike (query Root ss) h = refl
  rooted_alike (query Current ss) h = absurd cc

  mutual
    pub alike : (l : Tree) → is_uniform l ≡ true → spec.holds tests root l n ≡ spec.holds tests root l other
    alike (any ls) h = any_alike ls h
    alike (all ls) h = all_alike ls h
    alike (negation l) h = ap not (alike l h)
    alike (comparing c) h = comparison_alike c h
    alike (test q) h = ap (λ ns. not (is_empty ns)) (rooted_alike q h)
    alike (test_call c) h = ap as_truth (call_alike c h)

    any_alike : (ls : Logicals) → all_uniform ls ≡ true
        → spec.any_holds tests root ls n ≡ spec.any_holds tests root ls other
    any_alike no_logicals h = refl
    any_alike (add_logical l ls) h =
        let parts = and_parts (is_uniform l) (all_uniform ls) h in
        ap₂ (λ a b. a || b) (alike l parts.0) (any_alike ls parts.1)

    all_alike : (ls : Logicals) → all_uniform ls ≡ true
        → spec.all_hold tests root ls n ≡ spec.all_hold tests root ls other
    all_alike no_logicals h = refl
    all_alike (add_logical l ls) h =
        let parts = and_parts (is_uniform l) (all_uniform ls) h in
        ap₂ (λ a b. a && b) (alike l parts.0) (all_alike ls parts.1)

    comparison_alike : (c : Comparison) → comparison_uniform c ≡ true
        → spec.comparison_holds tests root c n ≡ spec.comparison_holds tests root c other
    comparison_alike (comparison left operator right) h =
        let parts = and_parts (side_uniform left) (side_uniform right) h in
        ap₂ (compared operator) (side_alike left parts.0) (side_alike right parts.1)

    side_alike : (s : Comparable) → side_uniform s ≡ true
        → spec.value_of tests root s n ≡ spec.value_of tests root s other
    side_alike (literal x) h = refl
    side_alike (single q) h = ap first_value (rooted_alike q h)
    side_alike (value_call c) h = ap as_value (call_alike c h)

    call_alike : (c : Call) → call_uniform c ≡ true
        → spec.given_by tests root c n ≡ spec.given_by tests root c other
    call_alike (call function given) h =
        ap (called_if_known tests (function_named function)) (arguments_alike given h)

    arguments_alike : (given : Arguments) → arguments_uniform given ≡ true
        → spec.all_handed tests root given n ≡ spec.all_handed tests root given other
    arguments_alike no_arguments h = refl
    arguments_alike (add_argument a others) h =
        let parts = and_parts (argument_uniform a) (arguments_uniform others) h in
        ap₂ (λ x xs. x ∷ xs) (argument_alike a parts.0) (arguments_alike others parts.1)

    argument_alike : (a : Argument) → argument_uniform a ≡ true
        → spec.handed tests root a n ≡ spec.handed tests root a other
    argument_alike (literal_argument x) h = refl
    argument_alike (query_argument q) h = ap handed_nodes (rooted_alike q h)
    argument_alike (logical_argument l) h = ap handed_truth (alike l h)
    argument_alike (call_argument c) h = call_alike c h

-- ---- along nodes

-- what a filter leaves of the children, each tested
pub kept_each : (base : Base) (rest : List CompiledSegment) (n : Node) (x : CompiledSelector)
    (l : CompiledLogical) → x ≡ sel.Filter l
    → reached base rest (picked base x n)
    ≡ flat_map (λ k. reached base rest (filter (is_true base l) (k ∷ []))) (children n)
kept_each base rest n x l is =
    ap (reached base rest) (ap (λ y. picked base y n) is ∙ picked_filter base n l)
    ∙ reached-filter base rest (is_true base l) (children n)

-- where it is true of every node, it leaves them all
pub true_along : (base : Base) (l : CompiledLogical) (rest : List CompiledSegment) →
    ((n : Node) → is_true base l n ≡ true)
    → (ns : List Node) → flat_map (λ k. reached base rest (k ∷ [])) ns
    ≡ flat_map (λ k. reached base rest (filter (is_true base l) (k ∷ []))) ns
true_along base l rest on [] = refl
true_along base l rest on (k ∷ ns) =
    ap₂ (λ xs ys. xs ++ ys) (sym (ap (λ b. reached base rest (cond b (k ∷ []) [])) (on k)))
    (true_along base l rest on ns)

-- where it is true of none, it leaves none
pub false_along : (base : Base) (l : CompiledLogical) (rest : List CompiledSegment) →
    ((n : Node) → is_true base l n ≡ false)
    → (ns : List Node) → flat_map (λ k. reached base rest (filter (is_true base l) (k ∷ []))) ns ≡ []
false_along base l rest off [] = refl
false_along base l rest off (k ∷ ns) =
    ap₂ (λ xs ys. xs ++ ys)
    (ap (λ b. reached base rest (cond b (k ∷ []) [])) (off k) ∙ reached-none base rest)
    (false_along base l rest off ns)
