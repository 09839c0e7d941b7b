use Rattle.jp_doc.proofs.Below.{item_below}
use Rattle.jp_node.specs.Part.{part_value}
use Rattle.jp_node.proofs.Lists.{of_child}
use Rattle.jp_node.proofs.part.Part.item.Goals as goal

pub returns-clause-below : goal.returns-clause-below
returns-clause-below c = of_child _ _ _ c.in_ok-value.ensures
    (item_below c.args.place (part_value c.args.self))
