use Rattle.std.proofs.Common.{◌≡◌, false, drop}
use Rattle.jp_output.specs.Chunks.{bytes_in}
use Rattle.jp_run.proofs.Handed.{Written}
use Rattle.jp_run.proofs.writing.write_chunks.Given as goal

abbrev pub invariant-loop-chunk : goal.invariant-loop-chunk
invariant-loop-chunk g l = record {
  working : g.K.Sink.failed l.sink ≡ false;
  written : Written (g.K.Sink.contents l.fn.sink) (g.K.Sink.contents l.sink) (bytes_in l.chunks)
      (bytes_in (drop l.chunk-index l.chunks));
}
