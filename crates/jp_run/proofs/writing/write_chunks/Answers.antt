use Rattle.std.proofs.Common.{rules, arith, subst}
use Rattle.std.proofs.lemmas.Grind.{common_steps}
use Rattle.std.specs.Io.KnownBytes.{Appends}
use Rattle.jp_run.specs.Written.{AppendsFront}
use Rattle.jp_run.proofs.Chunks.{chunk_more, chunk_stopped}
use Rattle.jp_run.proofs.Handed.{written_start}
use Rattle.jp_run.proofs.writing.write_chunks.Goals as goal

pub loop-chunk-init : goal.loop-chunk-init
loop-chunk-init g c = record { working = search rules; written = written_start _ _ }

pub returns-in_default-clause-front : goal.returns-in_default-clause-front
returns-in_default-clause-front g c =
    let before = g.K.Sink.contents c.loop-chunk.sink in
    let after = g.K.Sink.contents c.write_all.new.sink in
    chunk_stopped c.args.chunks.now c.loop-chunk.chunk-index c.chunk-item.result
    c.loop-chunk-test.true c.chunk-item.is _ _ _ c.loop-chunk.invariant.written
    (subst (AppendsFront before after) c.as_slice.ensures.value c.in_default.ensures.front)

pub loop-chunk-preserved : goal.loop-chunk-preserved
loop-chunk-preserved g c =
    let before = g.K.Sink.contents c.loop-chunk.sink in
    let after = g.K.Sink.contents c.write_all.new.sink in
    record {
      working = grind (arith, common_steps);
      written = chunk_more c.args.chunks.now c.loop-chunk.chunk-index c.chunk-item.result
          c.loop-chunk-test.true c.chunk-item.is _ _ _ c.loop-chunk.invariant.written
          (subst (Appends before after) c.as_slice.ensures.value c.in-Ok.ensures.ok);
    }
