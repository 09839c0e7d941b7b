use Rattle.jp_flat.specs.Value.{members_left}
use Rattle.jp_node.proofs.members.Members.is_shorter.Given as goal

abbrev pub invariant-loop-one : goal.invariant-loop-one
invariant-loop-one l = Unit {0}

abbrev pub decreases-loop-one : goal.decreases-loop-one
decreases-loop-one l = members_left l.ones
