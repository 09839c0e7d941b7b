use Rattle.std.proofs.Common.{◌≡◌, ◌≤◌, length}
use Rattle.jp_pattern.specs.Profile.{max_count}
use Rattle.jp_pattern.specs.inner.Reading.{digits_within}
use Rattle.jp_pattern.proofs.read_counts.digits_from.Given as goal

abbrev pub invariant-loop-rest : goal.invariant-loop-rest
invariant-loop-rest l = (l.number ≤ max_count)
    × (digits_within l.fn.number l.text ≡ digits_within l.number l.rest)

abbrev pub decreases-loop-rest : goal.decreases-loop-rest
decreases-loop-rest l = length l.rest
