use Rattle.std.proofs.Common.{◌≡◌, false, length}
use Rattle.jp_run.proofs.Handed.{Written}
use Rattle.jp_run.proofs.writing.write_all.Given as goal

abbrev pub invariant-loop-rest : goal.invariant-loop-rest
invariant-loop-rest g l = record {
  working : g.K.Sink.failed l.sink ≡ false;
  written : Written (g.K.Sink.contents l.fn.sink) (g.K.Sink.contents l.sink) l.bytes l.rest;
}

abbrev pub decreases-loop-rest : goal.decreases-loop-rest
decreases-loop-rest g l = length l.rest
