use Rattle.std.proofs.Common.{◌<◌, ◌-◌, ◌+◌, ◌*◌, length}
use Rattle.jp_flat_nodes.proofs.Loops.{ItemsOn, MembersOn}
use Rattle.jp_flat_nodes.proofs.reading.+reading.Given as goal

abbrev pub decreases-value : goal.decreases-value
decreases-value l = 2 * l.depth

abbrev pub decreases-array : goal.decreases-array
decreases-array l = 2 * l.depth + 1

abbrev pub decreases-object : goal.decreases-object
decreases-object l = 2 * l.depth + 1

abbrev pub invariant-array-loop-cursor : goal.invariant-array-loop-cursor
invariant-array-loop-cursor l = record {
  items : ItemsOn l.line l.decimals l.at l.cursor l.depth l.initial.out l.out;
  place : l.place < length l.out.nodes.items;
}

abbrev pub decreases-array-loop-cursor : goal.decreases-array-loop-cursor
decreases-array-loop-cursor l = length l.line - l.cursor

abbrev pub invariant-object-loop-cursor : goal.invariant-object-loop-cursor
invariant-object-loop-cursor l = record {
  members : MembersOn l.line l.decimals l.at l.cursor l.depth l.initial.out l.out;
  place : l.place < length l.out.nodes.items;
}

abbrev pub decreases-object-loop-cursor : goal.decreases-object-loop-cursor
decreases-object-loop-cursor l = length l.line - l.cursor
