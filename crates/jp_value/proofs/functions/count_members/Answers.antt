use Rattle.std.proofs.Common.{length, sym, ap, ◌∙◌}
use Rattle.jp_node.specs.Members.{list_entries}
use Rattle.jp_value.specs.Functions.{member_count}
use Rattle.jp_value.proofs.Lengths.{members_counted}
use Rattle.jp_value.proofs.functions.count_members.Goals as goal

pub returns : goal.returns
returns c =
    c.len.ensures ∙ ap length c.range.ensures
    ∙ sym (members_counted (list_entries c.in_ok-list.list))
    ∙ sym (ap member_count c.in_ok-list.ensures)
