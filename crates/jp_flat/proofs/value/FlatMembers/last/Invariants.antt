use Rattle.std.proofs.Common.{◌≡◌, None, option_map}
use Rattle.std.specs.Str.{chars}
use Rattle.jp_flat.specs.Members.{last_of}
use Rattle.jp_flat.specs.Value.{flat_value, entries, members_left}
use Rattle.jp_flat.proofs.value.FlatMembers.last.Given as goal

abbrev pub invariant-loop-member : goal.invariant-loop-member
invariant-loop-member l =
    last_of (chars l.name) (entries l.left) (option_map flat_value l.found)
    ≡ last_of (chars l.name) (entries l.fn.self) None

abbrev pub decreases-loop-member : goal.decreases-loop-member
decreases-loop-member l = members_left l.left
