-- How input is cut into documents, JSON Lines or JSON texts one behind another, and how these are numbered.
use Rattle.std.specs.Prelude.{ℕ, ◌+◌, List, ◌++◌, length}
use Rattle.jp_doc.specs.Feeding.{Cut, Progress, numbered}
use Rattle.jp_doc.specs.Feeding as by_lines
use Rattle.jp_doc.specs.Lines.{Line, all_lines}
use Rattle.jp_buffer.specs.Buffered.{nothing_fed_behind}
use Rattle.jp_documents.specs.Documents as by_documents
use Rattle.jp_run.specs.declared.cutting.Cutting.{Cutting}
use Rattle.jp_run.specs.declared.cutting.Cutting.TheVariants.{Lines, Documents}

-- how input is cut, and how many parts stand before its first one, which so has the next number
pub record Numbering : Type 0 where
  pub cutting : Cutting
  pub before : ℕ

-- parts that are numbered from 1
abbrev pub from_one : Cutting → Numbering
from_one c = record { cutting = c; before = 0 }

-- the parts that end in the bytes, and what is open behind them
abbrev pub cut : Cutting → List ℕ → Cut
cut Lines bytes = by_lines.cut bytes
cut Documents bytes = by_documents.cut bytes

-- all parts of the bytes: lines, blank ones too, or documents
abbrev pub parts : Cutting → List ℕ → List (List ℕ)
parts Lines bytes = all_lines bytes
parts Documents bytes = by_documents.all_documents bytes

abbrev pub part_count : Cutting → List ℕ → ℕ
part_count c bytes = length (parts c bytes)

-- the number of the last part: of the last before the input, where this has none
abbrev pub last_number : Numbering → List ℕ → ℕ
last_number n bytes = n.before + part_count n.cutting bytes

-- the documents of the bytes, each with the number of its part: a blank line is none
abbrev pub documents : Numbering → List ℕ → List Line
documents n bytes = numbered (n.before + 1) (parts n.cutting bytes)

-- those whose end is in the bytes
abbrev pub documents_in : Numbering → List ℕ → List Line
documents_in n bytes = numbered (n.before + 1) (cut n.cutting bytes).ended

-- the documents that a piece completes, and how far parts have come after it
abbrev pub fed_lines : Cutting → Progress → List ℕ → List Line
fed_lines c p piece = numbered (p.count + 1) (cut c (p.open_line ++ piece)).ended

abbrev pub fed : Cutting → Progress → List ℕ → Progress
fed c p piece =
    let all = cut c (p.open_line ++ piece) in
    record { count = p.count + length all.ended; open_line = all.open_line }

-- how far parts have come where these bytes have
abbrev pub progress_in : Numbering → List ℕ → Progress
progress_in n bytes = fed n.cutting (nothing_fed_behind n.before) bytes
