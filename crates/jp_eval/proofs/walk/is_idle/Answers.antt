use Rattle.std.proofs.Common.{rules}
use Rattle.std.proofs.Common.{ap, ◌∙◌}
use Rattle.jp_doc.specs.Location.{node}
use Rattle.jp_node.specs.Part.{part_value}
use Rattle.jp_eval.specs.inner.Walk.{done}
use Rattle.jp_eval.proofs.Idle.{nothing_below}
use Rattle.jp_eval.proofs.walk.is_idle.Goals as goal

pub returns-in-Descend : goal.returns-in-Descend
returns-in-Descend c = λ t base at.
    ap (λ k. done base k (node at (part_value c.args.value))) c.in-Descend.is
    ∙ nothing_below base at (part_value c.args.value) (c.is_scalar.ensures t) _ _

pub returns-in-Run : goal.returns-in-Run
returns-in-Run c = search rules
