use Rattle.std.proofs.Common.{◌≡◌}
use Rattle.jp_doc.specs.Json.{Members, no_members}
use Rattle.jp_flat.specs.Gathered.{gathered, NamesRise}
use Rattle.jp_flat.specs.Members.{put_all}
use Rattle.jp_flat.specs.Structured.{structured}
use Rattle.jp_flat.specs.Value.{entries, members_left}
use Rattle.jp_flat.proofs.structured.insert_structured.Given as goal

-- The structured ones of some members are inserted, and what is left, put to these, gives all.
abbrev pub invariant-loop-member : goal.invariant-loop-member
invariant-loop-member l =
    (ms : Members) × NamesRise ms
    × (put_all (entries l.left) ms ≡ put_all (entries l.members) no_members)
    × (gathered l.out.items ≡ structured ms)

abbrev pub decreases-loop-member : goal.decreases-loop-member
decreases-loop-member l = members_left l.left
