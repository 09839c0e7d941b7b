use Rattle.std.proofs.Common.{◌∙◌, sym, ap, arith}
use Rattle.jp_doc.specs.Json.{items}
use Rattle.jp_node.specs.Inside.{item_values}
use Rattle.jp_node.proofs.Short.{items_are_few}
use Rattle.jp_node.specs.Places.{max_place}
use Rattle.jp_node.specs.ChildNodes.{child_nodes}
use Rattle.jp_node.specs.Nodes.{item_nodes}
use Rattle.jp_node.proofs.ChildRanges.{take_enough}
use Rattle.jp_node.proofs.child_range.ChildRange.all.Goals as goal

pub returns-in-Items-clause-nodes : goal.returns-in-Items-clause-nodes
returns-in-Items-clause-nodes c = λ at.
    let few = items_are_few c.in-Items.items in
    ap (λ xs. item_nodes at 0 (items xs)) (take_enough max_place (item_values c.in-Items.items)
    (omega (arith, few))) ∙ sym (ap (child_nodes at) c.in-Items.is)
