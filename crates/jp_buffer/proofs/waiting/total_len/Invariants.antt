use Rattle.std.proofs.Common.{◌≡◌, ◌+◌, drop}
use Rattle.jp_buffer.specs.inner.Waiting.{bytes_of}
use Rattle.jp_buffer.proofs.waiting.total_len.Given as goal

abbrev pub invariant-loop-span : goal.invariant-loop-span
invariant-loop-span l = l.total + bytes_of (drop l.span-index l.spans) ≡ bytes_of l.spans
