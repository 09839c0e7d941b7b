use Rattle.std.proofs.Common.{◌≡◌, ◌++◌}
use Rattle.std.specs.Vec.Iter.{into_iter_items}
use Rattle.jp_output.specs.Chunks.{bytes_in}
use Rattle.jp_output.proofs.chunks.append_chunks.Given as goal

abbrev pub invariant-loop-chunk : goal.invariant-loop-chunk
invariant-loop-chunk l = record {
  so_far : bytes_in l.fn.chunks.items ++ bytes_in l.fn.more.items
      ≡ bytes_in l.chunks.items ++ bytes_in (into_iter_items l.chunk-iterator);
}
