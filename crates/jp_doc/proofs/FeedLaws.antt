-- Lines that are added one after another.
use Rattle.std.proofs.Common.{◌≡◌, ℕ, ◌+◌, ◌≤◌, true, false, List, [], ◌∷◌, ◌++◌, refl, sym, ◌∙◌, ap, map}
use Rattle.std.proofs.Common.{length, Result, Ok, Err, OnErr, arith, length-append, append_assoc, append-nil}
use Rattle.std.proofs.Math.ListN.{set}
use Rattle.std.proofs.Math.Seq.{set-append_seam}
use Rattle.std.proofs.lemmas.List.{map-append}
use Rattle.std.specs.List.{concat}
use Rattle.jp_doc.specs.inner.Added.{Adds, Begins}
use Rattle.jp_doc.specs.Feeding.{Cut, cut, has_line_feed, numbered, Progress, nothing_fed, fed, fed_lines}
use Rattle.jp_doc.specs.Feeding.{lines_of_pieces, after_pieces}
use Rattle.jp_doc.specs.Lines.{Line, line_of, all_lines, is_blank, lines, line_count}
use Rattle.jp_doc.specs.declared.line.Line as code
use Rattle.jp_doc.proofs.CutLaws.{cut_open, cut_first, feedless_both, open_feedless, lines_open, lines_both}
use Rattle.jp_doc.proofs.CutLaws.{numbered_first, numbered_both}

-- the lines that were added, and those that the rest adds, are the lines of the bytes
pub record Goes (all out : List code.Line) (before count : ℕ) (bytes rest : List ℕ) : Type 0 where
  pub added : List code.Line
  pub is : out ≡ all ++ added
  pub lines : map line_of added ++ numbered (count + 1) (cut rest).ended
      ≡ numbered (before + 1) (cut bytes).ended
  pub left : (cut rest).open_line ≡ (cut bytes).open_line
  pub counts : count + length (cut rest).ended ≡ before + length (cut bytes).ended
  pub long : count + length rest ≤ before + length bytes

pub goes_on : (all out new : List code.Line) (before count : ℕ) (bytes rest line after : List ℕ)
    → Goes all out before count bytes rest
    → rest ≡ line ++ 10 ∷ after → has_line_feed line ≡ false → Adds out new (numbered (count + 1) (line ∷ []))
    → Goes all new before (count + 1) bytes after
goes_on all out new before count bytes rest line after g e none a =
    let cuts : cut rest ≡ record { ended = line ∷ (cut after).ended; open_line = (cut after).open_line } =
    ap cut e ∙ cut_first line after none in
    let later : List Line = numbered (count + 1 + 1) (cut after).ended in
    record {
      added = g.added ++ a.0;
      is = a.1 ∙ ap (λ l. l ++ a.0) g.is ∙ append_assoc all g.added a.0;
      lines = ap (λ l. l ++ later) (map-append line_of g.added a.0)
          ∙ append_assoc (map line_of g.added) (map line_of a.0) later
          ∙ ap (λ l. map line_of g.added ++ (l ++ later)) a.2
          ∙ ap (λ l. map line_of g.added ++ l) (sym (numbered_first (count + 1) line (cut after).ended))
          ∙ sym (ap (λ (c : Cut). map line_of g.added ++ numbered (count + 1) c.ended) cuts) ∙ g.lines;
      left = sym (ap (λ (c : Cut). c.open_line) cuts) ∙ g.left;
      counts = omega (arith, g.counts, ap (λ (c : Cut). length c.ended) cuts);
      long = omega (arith, g.long, ap length e, length-append line (10 ∷ after));
    }

pub goes_end : (all out : List code.Line) (before count : ℕ) (bytes rest : List ℕ)
    → Goes all out before count bytes rest → has_line_feed rest ≡ false
    → Adds all out (numbered (before + 1) (cut bytes).ended) × (rest ≡ (cut bytes).open_line)
    × (count ≡ before + length (cut bytes).ended)
goes_end all out before count bytes rest g none =
    let cuts : cut rest ≡ record { ended = []; open_line = rest } = cut_open rest none in (
      (
        g.added,
        g.is,
        sym (append-nil (map line_of g.added))
            ∙ sym (ap (λ (c : Cut). map line_of g.added ++ numbered (count + 1) c.ended) cuts) ∙ g.lines,
      ),
      sym (ap (λ (c : Cut). c.open_line) cuts) ∙ g.left,
      omega (arith, g.counts, ap (λ (c : Cut). length c.ended) cuts),
    )

-- pieces

lines_after : (p : Progress) (pieces : List (List ℕ)) → has_line_feed p.open_line ≡ false
    → lines_of_pieces p pieces ≡ numbered (p.count + 1) (all_lines (p.open_line ++ concat pieces))
lines_after p [] h = ap (λ l. numbered (p.count + 1) l) (sym (lines_open p.open_line h)
    ∙ ap all_lines (sym (append-nil p.open_line)))
lines_after p (piece ∷ pieces) h =
    let whole : List ℕ = p.open_line ++ piece in
    ap (λ l. numbered (p.count + 1) (cut whole).ended ++ l)
    (lines_after (fed p piece) pieces (open_feedless whole))
    ∙ sym (numbered_both (p.count + 1) (p.count + length (cut whole).ended + 1) (cut whole).ended
    (all_lines ((cut whole).open_line ++ concat pieces)) (omega arith))
    ∙ ap (λ l. numbered (p.count + 1) l) (sym (lines_both whole (concat pieces))
    ∙ ap all_lines (append_assoc p.open_line piece (concat pieces)))

count_after : (p : Progress) (pieces : List (List ℕ)) → has_line_feed p.open_line ≡ false
    → (after_pieces p pieces).count ≡ p.count + length (all_lines (p.open_line ++ concat pieces))
count_after p [] h = ap (λ l. p.count + length l) (sym (lines_open p.open_line h)
    ∙ ap all_lines (sym (append-nil p.open_line)))
count_after p (piece ∷ pieces) h =
    let whole : List ℕ = p.open_line ++ piece in
    let later = all_lines ((cut whole).open_line ++ concat pieces) in
    let same : all_lines (p.open_line ++ (piece ++ concat pieces)) ≡ (cut whole).ended ++ later =
    ap all_lines (sym (append_assoc p.open_line piece (concat pieces))) ∙ lines_both whole (concat pieces) in
    omega (
      arith,
      count_after (fed p piece) pieces (open_feedless whole),
      ap length same,
      length-append
          (cut whole).ended later,
    )

pub pieces_lines : (pieces : List (List ℕ)) → lines_of_pieces nothing_fed pieces ≡ lines (concat pieces)
pieces_lines pieces = lines_after nothing_fed pieces refl

pub pieces_count : (pieces : List (List ℕ)) → (after_pieces nothing_fed pieces).count
    ≡ line_count (concat pieces)
pieces_count pieces = omega (arith, count_after nothing_fed pieces refl)

pub pieces_open : (p : Progress) (pieces : List (List ℕ)) → (after_pieces p pieces).open_line ≡ []
pieces_open p [] = refl
pieces_open p (piece ∷ pieces) = pieces_open (fed p piece) pieces

-- a line that is blank, or that was put in the place of another

pub adds_blank : (old new : List code.Line) (n : ℕ) (line : List ℕ) (lines : List (List ℕ))
    → Adds old new (numbered (n + 1) lines) → is_blank line ≡ true
    → Adds old new (numbered n (line ∷ lines))
adds_blank old new n line lines a blank = rw blank a

pub adds_full : (old first out new : List code.Line) (held full : code.Line) (n : ℕ) (line : List ℕ)
    (lines : List (List ℕ)) → first ≡ old ++ held ∷ []
    → Adds first out (numbered (n + 1) lines) → new ≡ set out (length old) full → line_of full ≡ (n, line)
    → is_blank line ≡ false → Adds old new (numbered n (line ∷ lines))
adds_full old first out new held full n line lines h a s e blank =
    let whole : out ≡ old ++ held ∷ a.0 = a.1 ∙ ap (λ l. l ++ a.0) h ∙ append_assoc old (held ∷ []) a.0 in
    rw blank (
      full ∷ a.0,
      s ∙ ap (λ l. set l (length old) full) whole
          ∙ set-append_seam old held a.0 full,
      ap (λ l. l ∷ map line_of a.0) e ∙ ap (λ r. (n, line) ∷ r) a.2,
    )

-- a piece

feedless_open : (p : Progress) (n : ℕ) (open_line : List ℕ) → record { count = n; open_line = open_line } ≡ p
    → p.open_line ≡ open_line
feedless_open p n open_line e = sym (ap (λ (q : Progress). q.open_line) e)

-- one with no line feed
pub open_piece : (p : Progress) (n : ℕ) (open_line piece : List ℕ)
    → record { count = n; open_line = open_line } ≡ p → has_line_feed open_line ≡ false
    → has_line_feed piece ≡ false
    → (cut (p.open_line ++ piece) ≡ record { ended = []; open_line = open_line ++ piece }) × (p.count ≡ n)
open_piece p n open_line piece e h k = (
  ap (λ l. cut (l ++ piece)) (feedless_open p n open_line e)
      ∙ cut_open (open_line ++ piece) (feedless_both open_line piece h k),
  sym
      (ap (λ (q : Progress). q.count) e),
)

-- one that ends the line that is open
ended_piece : (p : Progress) (n : ℕ) (open_line line after piece : List ℕ)
    → record { count = n; open_line = open_line } ≡ p → piece ≡ line ++ 10 ∷ after
    → has_line_feed open_line ≡ false → has_line_feed line ≡ false
    → (cut (p.open_line ++ piece) ≡ record {
      ended = (open_line ++ line) ∷ (cut after).ended;
      open_line =
          (cut after).open_line;
    }) × (p.count ≡ n)
ended_piece p n open_line line after piece e is h k = (
  ap (λ l. cut (l ++ piece)) (feedless_open p n open_line e) ∙ ap (λ l. cut (open_line ++ l)) is
      ∙ ap cut (sym (append_assoc open_line line (10 ∷ after)))
      ∙ cut_first (open_line ++ line) after (feedless_both open_line line h k),
  sym (ap (λ (q : Progress). q.count) e),
)

pub fed_ended : (p : Progress) (n : ℕ) (open_line line after piece whole : List ℕ)
    → record { count = n; open_line = open_line } ≡ p → piece ≡ line ++ 10 ∷ after
    → has_line_feed open_line ≡ false → has_line_feed line ≡ false → whole ≡ open_line ++ line
    → (fed_lines p piece ≡ numbered (n + 1) (whole ∷ (cut after).ended))
    × (fed p piece ≡ record { count = n + 1 + length (cut after).ended; open_line = (cut after).open_line })
fed_ended p n open_line line after piece whole e is h k w =
    let parts = ended_piece p n open_line line after piece e is h k in
    let counts : p.count + length (cut (p.open_line ++ piece)).ended ≡ n + 1 + length (cut after).ended =
    omega (arith, parts.1, ap (λ (c : Cut). length c.ended) parts.0) in (
      ap (λ (c : Cut). numbered (p.count + 1) c.ended) parts.0
          ∙ ap (λ k. numbered (k + 1) ((open_line ++ line) ∷ (cut after).ended)) parts.1
          ∙ ap (λ l. numbered (n + 1) (l ∷ (cut after).ended)) (sym w),
      ap (λ k. record { count = k; open_line = (cut (p.open_line ++ piece)).open_line }) counts
          ∙ ap (λ (c : Cut). record { count = n + 1 + length (cut after).ended; open_line = c.open_line })
          parts.0,
    )

pub begins_kept : {T E : Type 0} (r : Result T E) (p q : Progress) (open_line line : List ℕ) → OnErr r (q ≡ p)
    → p.open_line ≡ open_line ++ line → OnErr r (Begins open_line q.open_line)
begins_kept (Ok t) p q open_line line e is = tt
begins_kept (Err t) p q open_line line e is = (line, ap (λ (s : Progress). s.open_line) e ∙ is)
