use Rattle.jp_doc.specs.Location.{node}
use Rattle.jp_node.specs.Part.{part_value}
use Rattle.jp_eval.proofs.OneNode.{one_item}
use Rattle.jp_eval.proofs.singular.item_at.Goals as goal

pub returns : goal.returns
returns c = λ at.
    one_item (node at (part_value c.args.value)) c.args.place c.in-Some.place _ c.in-Some.is
    c.item.ensures.value
