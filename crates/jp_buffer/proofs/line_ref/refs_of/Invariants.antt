use Rattle.std.proofs.Common.{◌≡◌, map, take}
use Rattle.jp_doc.specs.Lines.{line_of}
use Rattle.jp_buffer.specs.Buffered.{line_at}
use Rattle.jp_buffer.proofs.line_ref.refs_of.Given as goal

abbrev pub invariant-loop-line : goal.invariant-loop-line
invariant-loop-line l = map line_at l.refs.items ≡ map line_of (take l.line-index l.lines)
