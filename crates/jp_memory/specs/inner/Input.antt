-- A working file, which nobody has to believe: what a buffer of input means, for private clauses alone.
use Rattle.std.specs.Prelude.{List, []}
use Rattle.jp_doc.specs.Feeding.{Progress}
use Rattle.jp_doc.specs.Lines.{Line}
use Rattle.jp_buffer.specs.Buffered.{nothing_fed_behind}
use Rattle.jp_run.specs.Cutting.{Numbering}
use Rattle.jp_run.specs.declared.cutting.Cutting.{Cutting}
use Rattle.jp_run.specs.declared.cutting.Cutting.TheVariants as cutting
use Rattle.jp_memory.specs.declared.input.Parts.{Parts}
use Rattle.jp_memory.specs.declared.input.Parts.TheVariants.{Lines, Documents}

-- how it is cut, how far its parts have come, and the documents of them that wait, in order
pub record Input : Type 0 where
  pub cutting : Cutting
  pub progress : Progress
  pub lines : List Line

-- before the first piece
abbrev pub nothing_come : Numbering → Input
nothing_come n = record { cutting = n.cutting; progress = nothing_fed_behind n.before; lines = [] }

-- what the buffer of either kind means
abbrev pub input_of : Parts → Input
input_of (Lines b) = record { cutting = cutting.Lines; progress = b.progress; lines = b.lines }
input_of (Documents b) = record { cutting = cutting.Documents; progress = b.progress; lines = b.lines }
