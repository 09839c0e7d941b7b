use Rattle.std.proofs.Common.{sym, ap, ◌∙◌}
use Rattle.jp_flat.specs.Structured.{structured}
use Rattle.jp_node.specs.Inside.{members_inside}
use Rattle.jp_node.proofs.Lists.{gathered_members}
use Rattle.jp_node.proofs.members.Members.gather_structured.Goals as goal

pub returns : goal.returns
returns c =
    let told = c.in_ok-gather_structured.ensures in
    sym (gathered_members c.gather_structured.new.out.items) ∙ told.2
    ∙ sym (ap (λ v. structured (members_inside v)) told.1)
