use Rattle.std.proofs.Common.{◌≡◌, ◌++◌, map}
use Rattle.std.specs.Prelude.{IsTrue}
use Rattle.jp_flat.specs.Gathered.{entry}
use Rattle.jp_flat.specs.Value.{entries, members_left}
use Rattle.jp_flat.proofs.Sorted.{RisesWith}
use Rattle.jp_flat.proofs.gather.list.Given as goal

abbrev pub invariant-loop-member : goal.invariant-loop-member
invariant-loop-member l =
    (map entry l.out.items ++ entries l.left ≡ entries l.fn.members)
    × (IsTrue l.rising → RisesWith l.before l.out.items)

abbrev pub decreases-loop-member : goal.decreases-loop-member
decreases-loop-member l = members_left l.left
