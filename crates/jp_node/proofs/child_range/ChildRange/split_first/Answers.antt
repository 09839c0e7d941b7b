use Rattle.std.proofs.Common.{ap, ◌∙◌}
use Rattle.jp_node.specs.ChildRanges.{range_nodes}
use Rattle.jp_node.proofs.child_range.ChildRange.split_first.Goals as goal

pub returns-in-None-first_item-clause-nodes : goal.returns-in-None-first_item-clause-nodes
returns-in-None-first_item-clause-nodes c = λ at.
    ap (range_nodes at) c.in-Items.is ∙ c.in-None-first_item.ensures.nodes at
