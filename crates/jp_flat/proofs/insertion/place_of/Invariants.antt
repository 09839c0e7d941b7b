use Rattle.std.proofs.Common.{◌≤◌, drop, length}
use Rattle.std.specs.Str.{chars}
use Rattle.jp_flat.specs.Gathered.{gathered, AreAbove}
use Rattle.jp_flat.proofs.insertion.place_of.Given as goal

-- the names behind the place are above
abbrev pub invariant-loop-place : goal.invariant-loop-place
invariant-loop-place l = (l.place ≤ length l.list) × AreAbove (chars l.name) (gathered (drop l.place l.list))

abbrev pub decreases-loop-place : goal.decreases-loop-place
decreases-loop-place l = l.place
