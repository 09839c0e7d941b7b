use Rattle.std.proofs.Common.{◌≡◌, ◌≤◌, length, false, List, [], ◌∷◌, refl, arith}
use Rattle.jp_tree.specs.Tree as tree
use Rattle.jp_tree.specs.PartViews as view
use Rattle.jp_tree.specs.Singular as singular
use Rattle.jp_tree.specs.declared.tree.Selector.{Selector}
use Rattle.jp_tree.proofs.singular.is_one_step.Goals as goal

two : (xs : List Selector) → 2 ≤ length xs
    → false ≡ singular.is_one_step (tree.selectors (view.selectors_of xs))
two [] h = absurd (omega arith)
two (x ∷ []) h = absurd (omega arith)
two (x ∷ y ∷ xs) h = refl

pub returns-in-len2-up : goal.returns-in-len2-up
returns-in-len2-up c = two c.args.selectors.now c.in-len2-up.len_at_least
