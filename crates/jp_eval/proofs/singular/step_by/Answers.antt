use Rattle.std.proofs.lemmas.Option.{IfSome_then}
use Rattle.jp_doc.specs.Location.{node}
use Rattle.jp_node.specs.Part.{part_value}
use Rattle.jp_eval.proofs.OneNode.{one_step}
use Rattle.jp_eval.proofs.singular.step_by.Goals as goal

pub returns : goal.returns
returns c = IfSome_then c.child_by.result c.child_by.ensures (λ child h base at.
    one_step base c.args.segment.now c.as_slice.result.now _ (node at (part_value c.args.value)) _
    c.if-segment.false c.as_slice.ensures.value c.in-len1.len_at_least c.in-len1.len_below
    c.selector-item.is (h base at))
