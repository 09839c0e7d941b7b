use Rattle.std.proofs.Common.{length}
use Rattle.jp_run.specs.inner.Serving.{HasServed}
use Rattle.jp_run.proofs.Serving.{done}
use Rattle.jp_run.proofs.fronts.write_found.Given as goal

abbrev pub invariant-loop-sink : goal.invariant-loop-sink
invariant-loop-sink g l = HasServed g.K.Sink l.job l.fn.sink l.sink l.fn.stream l.stream l.fn.out l.out done

abbrev pub decreases-loop-sink : goal.decreases-loop-sink
decreases-loop-sink g l = length l.out.sent.items
