use Rattle.std.proofs.Common.{◌≡◌, ◌≤◌, ◌-◌, ◌^◌, drop, length}
use Rattle.jp_output.specs.Chunks.{bytes_in}
use Rattle.jp_run.specs.Counts.{counted}
use Rattle.jp_run.proofs.writing.byte_count.Given as goal

abbrev pub invariant-loop-chunk : goal.invariant-loop-chunk
invariant-loop-chunk l = record {
  within : l.count ≤ 2 ^ 64 - 1;
  left : counted l.count (length (bytes_in (drop l.chunk-index l.answer.chunks.items)))
      ≡ counted 0 (length (bytes_in l.answer.chunks.items));
}
