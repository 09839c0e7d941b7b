-- A text has one verdict.
use Rattle.std.proofs.Common.{◌≡◌, Result, Ok, Err, refl, sym, ◌∙◌, ap, arith}
use Rattle.std.specs.Prelude.{◌<◌, ◌≤◌}
use Rattle.jp_number.specs.declared.numbers.Numbers.{Numbers}
use Rattle.jp_tree.specs.Tree.{Text, Query}
use Rattle.jp_tree.specs.Spelling.{Spells}
use Rattle.jp_tokens.specs.Depth.{bracket_depth, max_depth}
use Rattle.jp_syntax.proofs.OneTree.{one_tree}
use Rattle.jp_tree.specs.declared.fault.QueryFault.{QueryFault}
use Rattle.jp_tree.specs.declared.fault.QueryFault.TheVariants.{TooDeep, Syntax, Fraction, Range}
use Rattle.jp_tree.specs.declared.fault.QueryFault.TheVariants.{IllTyped, Memory}
use Rattle.jp_check.specs.Verdict.{verdict_in, IsVerdictIn}

-- the three ways to a verdict
abbrev TooDeepText : Text → Type 0
TooDeepText t = max_depth < bracket_depth t

abbrev NoTree : Text → Type 0
NoTree t = (bracket_depth t ≤ max_depth) × ((q : Query) → Spells t q → ⊥)

module _ (numbers : Numbers) where
  abbrev OfTree : Text → Result Query QueryFault → Type 0
  OfTree t r = (bracket_depth t ≤ max_depth) × ((q : Query) × Spells t q × (verdict_in numbers q ≡ r))

  data Way (t : Text) (r : Result Query QueryFault) : Type 0 where
    deep : TooDeepText t → r ≡ Err TooDeep → Way t r
    none : NoTree t → r ≡ Err Syntax → Way t r
    tree : OfTree t r → Way t r

  way : (t : Text) (r : Result Query QueryFault) → IsVerdictIn numbers t r → Way t r
  way t (Err TooDeep) v = deep v refl
  way t (Err Syntax) v = none v refl
  way t (Err Fraction) v = tree v
  way t (Err Range) v = tree v
  way t (Err IllTyped) v = tree v
  way t (Err Memory) v = tree v
  way t (Ok q) v = tree v

  same_way : (t : Text) (r s : Result Query QueryFault) → Way t r → Way t s → r ≡ s
  same_way t r s (deep h e) (deep g f) = e ∙ sym f
  same_way t r s (deep h e) (none g f) = absurd (omega (arith, h, g.0))
  same_way t r s (deep h e) (tree g) = absurd (omega (arith, h, g.0))
  same_way t r s (none h e) (deep g f) = absurd (omega (arith, g, h.0))
  same_way t r s (none h e) (none g f) = e ∙ sym f
  same_way t r s (none h e) (tree g) = absurd (h.1 g.1.0 g.1.1)
  same_way t r s (tree h) (deep g f) = absurd (omega (arith, g, h.0))
  same_way t r s (tree h) (none g f) = absurd (g.1 h.1.0 h.1.1)
  same_way t r s (tree h) (tree g) = sym h.1.2
      ∙ ap (verdict_in numbers) (one_tree t h.1.0 g.1.0 h.1.1 g.1.1) ∙ g.1.2

  pub one_verdict : (t : Text) (r s : Result Query QueryFault) → IsVerdictIn numbers t r
      → IsVerdictIn numbers t s → r ≡ s
  one_verdict t r s v w = same_way t r s (way t r v) (way t s w)
