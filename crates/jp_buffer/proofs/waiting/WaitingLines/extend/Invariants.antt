use Rattle.std.proofs.Common.{◌≡◌, ◌++◌, map, take}
use Rattle.jp_buffer.specs.Buffered.{line_at}
use Rattle.jp_buffer.proofs.waiting.WaitingLines.extend.Given as goal

abbrev pub invariant-loop-line : goal.invariant-loop-line
invariant-loop-line l = l.self ≡ l.fn.self ++ map line_at (take l.line-index l.lines)
