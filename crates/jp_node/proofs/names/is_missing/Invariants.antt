use Rattle.std.proofs.Common.{◌≡◌, drop, map}
use Rattle.std.specs.Str.{chars}
use Rattle.jp_doc.specs.Location.{member_at}
use Rattle.jp_flat.specs.Gathered.{entry}
use Rattle.jp_node.specs.Members.{members}
use Rattle.jp_node.proofs.names.is_missing.Given as goal

abbrev pub invariant-loop-member : goal.invariant-loop-member
invariant-loop-member l = member_at (chars l.name) (members (map entry l.list))
    ≡ member_at (chars l.name) (members (map entry (drop l.member-index l.list)))
