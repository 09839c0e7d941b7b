use Rattle.std.proofs.Common.{sym, ap, ◌∙◌}
use Rattle.jp_compiled.specs.declared.query.Want.TheVariants.{First, Only}
use Rattle.jp_found.specs.Aggregates.{tells}
use Rattle.jp_found.proofs.Telling.{first_result, only_result}
use Rattle.jp_found.proofs.aggregates.operand.Goals as goal

pub returns-in-First-clause-first : goal.returns-in-First-clause-first
returns-in-First-clause-first c = λ ns h.
    c.first_operand.ensures
    ∙ first_result c.in-First.first ns (sym (ap (tells First ns) c.in-First.is) ∙ h)

pub returns-in-Only-clause-only : goal.returns-in-Only-clause-only
returns-in-Only-clause-only c = λ ns h.
    c.only_operand.ensures
    ∙ only_result c.in-Only.alone ns (sym (ap (tells Only ns) c.in-Only.is) ∙ h)
