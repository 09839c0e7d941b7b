-- What holds of each way in which input is cut.
use Rattle.std.proofs.Common.{◌≡◌, ℕ, ◌+◌, List, [], ◌++◌, length, refl, sym, ◌∙◌, ap, arith}
use Rattle.std.proofs.Common.{append-nil, length-append}
use Rattle.jp_buffer.specs.Buffered.{nothing_fed_behind}
use Rattle.jp_doc.specs.Feeding.{Cut, last_line, numbered}
use Rattle.jp_doc.specs.Lines.{lines}
use Rattle.jp_doc.proofs.CutLaws as by_lines
use Rattle.jp_doc.proofs.CutLaws.{numbered_both}
use Rattle.jp_documents.specs.Documents as documents_alone
use Rattle.jp_documents.proofs.BeginLaws.{all_numbered}
use Rattle.jp_documents.proofs.FeedLaws as by_documents
use Rattle.jp_run.specs.Cutting.{Numbering, cut, documents, documents_in, from_one, last_number}
use Rattle.jp_run.specs.Cutting.{parts, progress_in}
use Rattle.jp_run.specs.declared.cutting.Cutting.{Cutting}
use Rattle.jp_run.specs.declared.cutting.Cutting.TheVariants.{Lines, Documents}

-- bytes are cut alike in one piece and in two, where those that are open are cut again with the second
pub cut_both : (c : Cutting) (xs ys : List ℕ) → cut c (xs ++ ys) ≡ record {
  ended = (cut c xs).ended ++ (cut c ((cut c xs).open_line ++ ys)).ended;
  open_line = (cut c ((cut c xs).open_line ++ ys)).open_line;
}
cut_both Lines xs ys = by_lines.cut_both xs ys
cut_both Documents xs ys = by_documents.cut_in_two xs ys

-- what is open, cut again, is open
pub cut_again : (c : Cutting) (xs : List ℕ) → cut c (cut c xs).open_line
    ≡ record { ended = []; open_line = (cut c xs).open_line }
cut_again Lines xs = by_lines.cut_open _ (by_lines.open_feedless xs)
cut_again Documents xs = by_documents.still_open xs

pub parts_cut : (c : Cutting) (xs : List ℕ) → parts c xs ≡ (cut c xs).ended ++ last_line (cut c xs).open_line
parts_cut Lines xs = by_lines.lines_cut xs
parts_cut Documents xs = refl

pub parts_both : (c : Cutting) (xs ys : List ℕ) → parts c (xs ++ ys)
    ≡ (cut c xs).ended ++ parts c ((cut c xs).open_line ++ ys)
parts_both Lines xs ys = by_lines.lines_both xs ys
parts_both Documents xs ys = by_documents.documents_both xs ys

-- of no bytes nothing has come

cut_nothing : (c : Cutting) → cut c [] ≡ record { ended = []; open_line = [] }
cut_nothing Lines = refl
cut_nothing Documents = refl

pub fed_nothing : (n : Numbering) → progress_in n [] ≡ nothing_fed_behind n.before
fed_nothing n = ap (λ (k : Cut). record { count = n.before + length k.ended; open_line = k.open_line })
    (cut_nothing n.cutting) ∙ ap (λ k. record { count = k; open_line = [] }) {x = n.before + 0}
    {y = n.before} (omega arith)

pub documents_nothing : (n : Numbering) → documents_in n [] ≡ []
documents_nothing n = ap (λ (k : Cut). numbered (n.before + 1) k.ended) (cut_nothing n.cutting)

-- documents that are numbered from 1: lines that are not blank, or documents over lines, of which none is

pub lines_from_one : (xs : List ℕ) → documents (from_one Lines) xs ≡ lines xs
lines_from_one xs = refl

pub documents_from_one : (xs : List ℕ) → documents (from_one Documents) xs ≡ documents_alone.documents xs
documents_from_one xs = all_numbered 1 xs

-- where nothing is open behind some bytes, what follows is cut and numbered for itself, behind their parts
module _ (n : Numbering) (xs ys : List ℕ) (ended : (cut n.cutting xs).open_line ≡ []) where
  parts_ended : parts n.cutting xs ≡ (cut n.cutting xs).ended
  parts_ended = parts_cut n.cutting xs ∙ ap (λ l. (cut n.cutting xs).ended ++ last_line l) ended
      ∙ append-nil (cut n.cutting xs).ended

  parts_joined : parts n.cutting (xs ++ ys) ≡ parts n.cutting xs ++ parts n.cutting ys
  parts_joined = parts_both n.cutting xs ys
      ∙ ap (λ l. (cut n.cutting xs).ended ++ parts n.cutting (l ++ ys)) ended
      ∙ ap (λ l. l ++ parts n.cutting ys) (sym parts_ended)

  pub documents_behind : documents n (xs ++ ys) ≡ documents n xs
      ++ documents (record { cutting = n.cutting; before = last_number n xs }) ys
  documents_behind = ap (numbered (n.before + 1)) parts_joined
      ∙ numbered_both (n.before + 1) (last_number n xs + 1) (parts n.cutting xs) (parts n.cutting ys)
      (omega arith)

  pub last_behind : last_number n (xs ++ ys)
      ≡ last_number (record { cutting = n.cutting; before = last_number n xs }) ys
  last_behind = omega (
    arith,
    ap length parts_joined,
    length-append (parts n.cutting xs) (parts n.cutting ys),
  )
