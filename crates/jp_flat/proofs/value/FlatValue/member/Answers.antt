use Rattle.std.proofs.Common.{sym, ap, ◌∙◌}
use Rattle.std.specs.Str.{chars}
use Rattle.jp_doc.specs.Json.{no_members}
use Rattle.jp_doc.specs.Location.{member_of}
use Rattle.jp_flat.specs.Value.{entries}
use Rattle.jp_flat.proofs.Entries.{last_found}
use Rattle.jp_flat.proofs.InsideObject.{members_are}
use Rattle.jp_flat.proofs.value.FlatValue.member.Goals as goal

pub returns-in-Some : goal.returns-in-Some
returns-in-Some c =
    let k = chars c.args.name.now in
    c.last.ensures ∙ sym (last_found k (entries c.in-Some.members) no_members)
    ∙ sym (ap (member_of k) (members_are c.in-Some.members)) ∙ ap (member_of k) c.in-Some.ensures
