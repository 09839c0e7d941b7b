use Rattle.std.proofs.Common.{◌≡◌, ◌+◌}
use Rattle.jp_number.specs.inner.Front.{front}
use Rattle.jp_number.specs.inner.Sizes.{digits}
use Rattle.jp_number.proofs.size.compare_digits.Given as goal

abbrev pub invariant-loop-at : goal.invariant-loop-at
invariant-loop-at l =
    front (digits l.left) (l.left.zeros + l.at) ≡ front (digits l.right) (l.right.zeros + l.at)
