use Rattle.jp_flat.specs.Value.{members_left}
use Rattle.jp_node.proofs.names.behind_weight.Given as goal

abbrev pub invariant-loop-member : goal.invariant-loop-member
invariant-loop-member l = Unit {0}

abbrev pub decreases-loop-member : goal.decreases-loop-member
decreases-loop-member l = members_left l.left
