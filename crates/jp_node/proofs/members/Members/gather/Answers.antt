use Rattle.std.proofs.Common.{ap, ◌∙◌}
use Rattle.jp_node.specs.Inside.{members_inside}
use Rattle.jp_node.proofs.Lists.{gathered_members}
use Rattle.jp_node.proofs.members.Members.gather.Goals as goal

pub returns : goal.returns
returns c = ap members_inside c.in_ok-gather.ensures.members ∙ gathered_members c.gather.new.out.items
