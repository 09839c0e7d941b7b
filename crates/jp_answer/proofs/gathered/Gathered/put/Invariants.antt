use Rattle.std.proofs.Common.{◌≡◌, ◌++◌, take}
use Rattle.jp_output.specs.Chunks.{bytes_in}
use Rattle.jp_answer.proofs.gathered.Gathered.put.Given as goal

abbrev pub invariant-loop-chunk : goal.invariant-loop-chunk
invariant-loop-chunk l = record {
  bytes : l.self.bytes.items ≡ l.fn.self.bytes.items ++ bytes_in (take l.chunk-index l.more.chunks.items);
  faulty : l.self.faulty ≡ l.fn.self.faulty;
}
