use Rattle.std.proofs.Common.{◌≡◌, false}
use Rattle.jp_run.proofs.ReadingOn.{ReadsOn}
use Rattle.jp_run.proofs.beside.read_beside.Given as goal

abbrev pub invariant-loop-stream : goal.invariant-loop-stream
invariant-loop-stream g l = record {
  reads : ReadsOn g.S.Supply g.K.Sink l.job l.fn.source l.source l.fn.sink l.sink l.fn.stream l.stream l.out;
  working : g.S.Supply.failed l.source ≡ false;
}

abbrev pub decreases-loop-stream : goal.decreases-loop-stream
decreases-loop-stream g l = l.stream.left
