use Rattle.std.proofs.Common.{◌≡◌}
use Rattle.jp_doc.specs.Json.{no_members}
use Rattle.jp_flat.specs.Gathered.{gathered, NamesRise}
use Rattle.jp_flat.specs.Members.{put_all}
use Rattle.jp_flat.specs.Value.{entries, members_left}
use Rattle.jp_flat.proofs.insertion.insert_few.Given as goal

-- what is left, put to what is inserted, gives all members
abbrev pub invariant-loop-member : goal.invariant-loop-member
invariant-loop-member l =
    (put_all (entries l.left) (gathered l.out.items) ≡ put_all (entries l.members) no_members)
    × NamesRise (gathered l.out.items)

abbrev pub decreases-loop-member : goal.decreases-loop-member
decreases-loop-member l = members_left l.left
