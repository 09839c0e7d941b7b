-- Documents of bytes that come in two parts.
use Rattle.std.proofs.Common.{◌≡◌, ℕ, ◌+◌, ◌≤◌, not, List, ◌++◌, length, ◌∙◌, ap, arith, length-append}
use Rattle.std.specs.List.{enumerate_from}
use Rattle.std.proofs.lemmas.List.Sums.{length-filter, count_by-le-length}
use Rattle.std.proofs.lemmas.List.FromFn.{length-enumerate_from}
use Rattle.jp_doc.specs.Lines.{Line, is_blank}
use Rattle.jp_doc.specs.Feeding.{numbered, last_line, finished, finished_lines}
use Rattle.jp_buffer.specs.Buffered.{nothing_fed_behind}
use Rattle.jp_doc.proofs.CutLaws.{numbered_both}
use Rattle.jp_run.specs.Cutting.{Numbering, cut, documents, documents_in, fed, fed_lines, last_number, parts}
use Rattle.jp_run.specs.Cutting.{progress_in}
use Rattle.jp_run.proofs.Cuttings.{parts_both, parts_cut}
use Rattle.jp_run.proofs.Pieces.{fed_twice, lines_twice}

pub documents_both : (n : Numbering) (bytes piece : List ℕ) → documents_in n (bytes ++ piece)
    ≡ documents_in n bytes ++ fed_lines n.cutting (progress_in n bytes) piece
documents_both n bytes piece = lines_twice n.cutting (nothing_fed_behind n.before) bytes piece

-- the progress of more bytes goes on from that of those that had come
pub progress_both : (n : Numbering) (bytes piece : List ℕ) → progress_in n (bytes ++ piece)
    ≡ fed n.cutting (progress_in n bytes) piece
progress_both n bytes piece = fed_twice n.cutting (nothing_fed_behind n.before) bytes piece

-- the documents of more bytes go on from those that had come
pub documents_more : (n : Numbering) (bytes rest : List ℕ) → (more : List Line)
    × (documents n (bytes ++ rest) ≡ documents_in n bytes ++ more)
documents_more n bytes rest =
    let ended : List (List ℕ) = (cut n.cutting bytes).ended in
    let later : List (List ℕ) = parts n.cutting ((cut n.cutting bytes).open_line ++ rest) in
    let next : ℕ = n.before + length ended + 1 in (
      numbered next later,
      ap (numbered (n.before + 1)) (parts_both n.cutting bytes rest)
          ∙ numbered_both (n.before + 1) next ended later (omega arith),
    )

pub documents_whole : (n : Numbering) (bytes : List ℕ) → documents n bytes
    ≡ documents_in n bytes ++ finished_lines (progress_in n bytes)
documents_whole n bytes = ap (numbered (n.before + 1)) (parts_cut n.cutting bytes)
    ∙ numbered_both (n.before + 1) ((progress_in n bytes).count + 1) (cut n.cutting bytes).ended
    (last_line (cut n.cutting bytes).open_line) (omega arith)

pub count_whole : (n : Numbering) (bytes : List ℕ)
    → (finished (progress_in n bytes)).count ≡ last_number n bytes
count_whole n bytes = omega (
  arith,
  ap length (parts_cut n.cutting bytes),
  length-append (cut n.cutting bytes).ended (last_line (cut n.cutting bytes).open_line),
)

pub count_below : (n : Numbering) (bytes : List ℕ) → (progress_in n bytes).count ≤ last_number n bytes
count_below n bytes = omega (
  arith,
  ap length (parts_cut n.cutting bytes),
  length-append (cut n.cutting bytes).ended (last_line (cut n.cutting bytes).open_line),
)

-- no more documents than parts
pub few_documents : (n : Numbering) (bytes : List ℕ)
    → length (documents_in n bytes) ≤ (progress_in n bytes).count
few_documents n bytes =
    let ended : List (List ℕ) = (cut n.cutting bytes).ended in
    let all : List Line = enumerate_from (n.before + 1) ended in
    let p = λ (l : Line). not (is_blank l.1) in
    omega (
      arith,
      length-filter p all,
      count_by-le-length p all,
      length-enumerate_from (n.before + 1) ended,
    )
