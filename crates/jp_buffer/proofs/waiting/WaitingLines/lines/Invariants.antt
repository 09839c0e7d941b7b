use Rattle.std.proofs.Common.{◌≡◌, ◌++◌, drop, length, map}
use Rattle.jp_buffer.specs.Buffered.{line_at}
use Rattle.jp_buffer.specs.inner.Waiting.{bytes_of, lines_in}
use Rattle.jp_buffer.proofs.waiting.WaitingLines.lines.Given as goal

abbrev pub invariant-loop-span : goal.invariant-loop-span
invariant-loop-span l = record {
  listed : map line_at l.lines.items ++ lines_in l.rest (drop l.span-index l.span-items) ≡ l.self;
  left : length l.rest ≡ bytes_of (drop l.span-index l.span-items);
}
