use Rattle.std.specs.Str.{chars}
use Rattle.jp_doc.proofs.Below.{member_below}
use Rattle.jp_node.specs.Part.{part_value}
use Rattle.jp_node.proofs.Lists.{of_child}
use Rattle.jp_node.proofs.part.Part.member.Goals as goal

pub returns-clause-below : goal.returns-clause-below
returns-clause-below c = of_child _ _ _ c.in_ok-value.ensures
    (member_below (chars c.args.name.now) (part_value c.args.self))
