use Rattle.std.proofs.Common.{sym, ap, ◌∙◌}
use Rattle.jp_doc.specs.Location.{node}
use Rattle.jp_node.specs.Part.{part_value}
use Rattle.jp_eval.specs.inner.Walk.{done}
use Rattle.jp_eval.proofs.WorkItems.{at_and_below}
use Rattle.jp_eval.proofs.work_items.work_items.Goals as goal

pub returns-in-Descend-clause-nodes : goal.returns-in-Descend-clause-nodes
returns-in-Descend-clause-nodes c = λ base at.
    let n = node at (part_value c.args.value) in
    at_and_below base c.in-Descend.rest.now c.in-Descend.selectors.now n
    ∙ sym (ap (λ t. done base t n) c.in-Descend.is)
