use Rattle.std.proofs.Common.{append-nil, sym, ap, ◌∙◌}
use Rattle.std.specs.List.{flat_map}
use Rattle.jp_doc.specs.Location.{node}
use Rattle.jp_node.specs.Nodes.{descendants}
use Rattle.jp_node.specs.Part.{part_value}
use Rattle.jp_eval.specs.inner.Walk.{picked_by, reached}
use Rattle.jp_eval.proofs.Chains.{reached-plain, reached-deep}
use Rattle.jp_eval.proofs.WorkItems.{at_and_below}
use Rattle.jp_eval.proofs.work_items.of_segment.Goals as goal

pub returns-then-segment-clause-nodes : goal.returns-then-segment-clause-nodes
returns-then-segment-clause-nodes c = λ base at.
    let n = node at (part_value c.args.value) in
    let rest = c.args.rest.now in
    at_and_below base rest c.as_slice-selectors.result.now n
    ∙ ap (λ xs. reached base rest (flat_map (picked_by base xs) (descendants n)))
    c.as_slice-selectors.ensures.value
    ∙ sym (reached-deep base c.args.segment.now rest n c.if-segment.true)

pub returns-else-segment-clause-nodes : goal.returns-else-segment-clause-nodes
returns-else-segment-clause-nodes c = λ base at.
    let n = node at (part_value c.args.value) in
    let rest = c.args.rest.now in
    append-nil (reached base rest (picked_by base c.as_slice-selectors.result.now n))
    ∙ ap (λ xs. reached base rest (picked_by base xs n)) c.as_slice-selectors.ensures.value
    ∙ sym (reached-plain base c.args.segment.now rest n c.if-segment.false)
