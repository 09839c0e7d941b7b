use Rattle.std.proofs.Common.{Some, sym, ap, ap₂, ◌∙◌}
use Rattle.jp_value.specs.Comparison.{compared}
use Rattle.jp_eval.proofs.local.compare_found.Goals as goal

pub returns : goal.returns
returns c = λ base at. c.in_ok-truth.ensures
    ∙ ap₂ (compared c.args.operator) (c.kind_of.ensures ∙ sym (c.in-Some.ensures base at))
    (ap Some c.literal.ensures)
