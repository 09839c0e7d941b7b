-- Lines that wait in a buffer, and how far the lines of their stream have come.
use Rattle.std.specs.Prelude.{ℕ, ◌+◌, List, [], ◌∷◌, length}
use Rattle.jp_doc.specs.Feeding.{Progress}
use Rattle.jp_doc.specs.Lines.{Line}
use Rattle.jp_buffer.specs.declared.line_ref.LineRef.{LineRef}

-- the line that a `LineRef` of `src/` stands for
abbrev pub line_at : LineRef → Line
line_at l = (l.number, l.bytes.now)

-- how many bytes lines have together, without their line feeds
abbrev pub total_bytes : List Line → ℕ
total_bytes [] = 0
total_bytes (l ∷ ls) = length l.1 + total_bytes ls

-- how far the lines have come, and those of them that wait, in order
pub record Buffered : Type 0 where
  pub progress : Progress
  pub lines : List Line

-- before the first piece, where so many lines have ended before: how far they have come, and a buffer
abbrev pub nothing_fed_behind : ℕ → Progress
nothing_fed_behind count = record { count = count; open_line = [] }

abbrev pub nothing_buffered_behind : ℕ → Buffered
nothing_buffered_behind count = record { progress = nothing_fed_behind count; lines = [] }

-- before the first piece
abbrev pub nothing_buffered : Buffered
nothing_buffered = nothing_buffered_behind 0
