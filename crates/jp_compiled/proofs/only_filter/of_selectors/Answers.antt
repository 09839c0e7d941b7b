use Rattle.std.proofs.Common.{◌≡◌, ◌≤◌, length, map, None, List, [], ◌∷◌, refl, arith}
use Rattle.jp_tree.specs.Tree as tree
use Rattle.jp_compiled.specs.Parts.{Wanted, selector_in}
use Rattle.jp_compiled.specs.declared.query.CompiledSelector.{CompiledSelector}
use Rattle.jp_compiled.specs.inner.OnlyFilter.{selectors_filter}
use Rattle.jp_compiled.proofs.only_filter.of_selectors.Goals as goal

two : (roots : List Wanted) (xs : List CompiledSelector) → 2 ≤ length xs
    → None ≡ selectors_filter (tree.selectors (map (selector_in roots) xs))
two roots [] h = absurd (omega arith)
two roots (x ∷ []) h = absurd (omega arith)
two roots (x ∷ y ∷ xs) h = refl

pub returns-in-len2-up : goal.returns-in-len2-up
returns-in-len2-up c = λ roots.
    let h : 2 ≤ length c.args.selectors.now = omega arith in
    two roots c.args.selectors.now h
