use Rattle.std.proofs.Common.{length}
use Rattle.jp_buffer.proofs.GoingLaws.{Goes}
use Rattle.jp_buffer.proofs.cutting.push_lines.Given as goal

abbrev pub invariant-loop-line : goal.invariant-loop-line
invariant-loop-line l = Goes l.fn.waiting l.waiting l.before l.count l.bytes l.rest

abbrev pub decreases-loop-line : goal.decreases-loop-line
decreases-loop-line l = length l.rest
