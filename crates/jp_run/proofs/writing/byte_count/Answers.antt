use Rattle.std.proofs.Common.{◌∙◌, ap, arith, get_or, length}
use Rattle.std.proofs.lemmas.List.{drop_all}
use Rattle.jp_output.specs.Chunks.{bytes_in}
use Rattle.jp_run.proofs.Chunks.{chunk_counted}
use Rattle.jp_run.proofs.writing.byte_count.Goals as goal

pub loop-chunk-preserved : goal.loop-chunk-preserved
loop-chunk-preserved c =
    let value = c.deref-chunk-items.ensures.value in
    record {
      within = omega (arith, c.saturating_add-count.ensures);
      left = omega (
        arith,
        c.saturating_add-count.ensures,
        chunk_counted c.args.answer.now.chunks.items c.loop-chunk.chunk-index c.chunk-item.result
            (omega (arith, c.loop-chunk-test.true, ap length value))
            (c.chunk-item.is ∙ ap (λ l. get_or l c.loop-chunk.chunk-index c.chunk-item.result) value)
            c.loop-chunk.count _ c.loop-chunk.invariant.left,
      );
    }

pub returns : goal.returns
returns c = omega (
  arith,
  c.loop-chunk.invariant.within,
  c.loop-chunk.invariant.left,
  ap (λ l. length (bytes_in l)) (drop_all c.loop-chunk.chunk-index c.args.answer.now.chunks.items
      (omega (arith, c.loop-chunk-test.false, ap length c.deref-chunk-items.ensures.value))),
)
