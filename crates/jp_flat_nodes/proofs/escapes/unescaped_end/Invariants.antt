use Rattle.std.proofs.Common.{◌-◌, length}
use Rattle.jp_flat_nodes.specs.inner.Reads.{IsWritten}
use Rattle.jp_flat_nodes.proofs.escapes.unescaped_end.Given as goal

abbrev pub invariant-loop-from : goal.invariant-loop-from
invariant-loop-from l = IsWritten l.line l.from l.at l.initial.texts.items l.texts.items

abbrev pub decreases-loop-from : goal.decreases-loop-from
decreases-loop-from l = length l.line - l.at
