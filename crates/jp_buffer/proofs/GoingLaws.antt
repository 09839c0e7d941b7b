-- Lines that are added one after another.
use Rattle.std.proofs.Common.{◌≡◌, ℕ, ◌+◌, ◌≤◌, ◌==◌, true, false, List, [], ◌∷◌, ◌++◌, sym, ◌∙◌, ap, length, arith}
use Rattle.std.proofs.Common.{length-append, append_assoc, append-nil, refl, subst, Result, Ok, Err, OnErr}
use Rattle.std.proofs.lemmas.Bool.{eqb-true}
use Rattle.std.proofs.lemmas.List.{nil_from_length}
use Rattle.jp_doc.specs.Feeding.{Cut, cut, has_line_feed, numbered, Progress, fed, fed_lines}
use Rattle.jp_doc.specs.Lines.{Line}
use Rattle.jp_doc.proofs.CutLaws.{cut_open, cut_first, numbered_first}
use Rattle.jp_doc.proofs.FeedLaws.{open_piece, fed_ended}
use Rattle.jp_buffer.specs.Buffered.{Buffered, nothing_fed_behind}
use Rattle.jp_buffer.specs.inner.Waiting.{Begins}

-- the lines that were added, and those that the rest adds, are the lines of the bytes
pub record Goes (all out : List Line) (before count : ℕ) (bytes rest : List ℕ) : Type 0 where
  pub added : List Line
  pub is : out ≡ all ++ added
  pub lines : added ++ numbered (count + 1) (cut rest).ended ≡ numbered (before + 1) (cut bytes).ended
  pub left : (cut rest).open_line ≡ (cut bytes).open_line
  pub counts : count + length (cut rest).ended ≡ before + length (cut bytes).ended
  pub long : count + length rest ≤ before + length bytes

pub goes_on : (all out new : List Line) (before count : ℕ) (bytes rest line after : List ℕ)
    → Goes all out before count bytes rest → rest ≡ line ++ 10 ∷ after → has_line_feed line ≡ false
    → new ≡ out ++ numbered (count + 1) (line ∷ []) → Goes all new before (count + 1) bytes after
goes_on all out new before count bytes rest line after g e none a =
    let cuts : cut rest ≡ record { ended = line ∷ (cut after).ended; open_line = (cut after).open_line } =
    ap cut e ∙ cut_first line after none in
    let first : List Line = numbered (count + 1) (line ∷ []) in
    record {
      added = g.added ++ first;
      is = a ∙ ap (λ l. l ++ first) g.is ∙ append_assoc all g.added first;
      lines = append_assoc g.added first (numbered (count + 1 + 1) (cut after).ended)
          ∙ ap (λ l. g.added ++ l) (sym (numbered_first (count + 1) line (cut after).ended))
          ∙ sym (ap (λ (c : Cut). g.added ++ numbered (count + 1) c.ended) cuts) ∙ g.lines;
      left = sym (ap (λ (c : Cut). c.open_line) cuts) ∙ g.left;
      counts = omega (arith, g.counts, ap (λ (c : Cut). length c.ended) cuts);
      long = omega (arith, g.long, ap length e, length-append line (10 ∷ after));
    }

pub goes_end : (all out : List Line) (before count : ℕ) (bytes rest : List ℕ)
    → Goes all out before count bytes rest → has_line_feed rest ≡ false
    → (out ≡ all ++ numbered (before + 1) (cut bytes).ended) × (rest ≡ (cut bytes).open_line)
    × (count ≡ before + length (cut bytes).ended)
goes_end all out before count bytes rest g none =
    let cuts : cut rest ≡ record { ended = []; open_line = rest } = cut_open rest none in (
      g.is ∙ ap (λ l. all ++ l) (sym (append-nil g.added)
          ∙ sym (ap (λ (c : Cut). g.added ++ numbered (count + 1) c.ended) cuts) ∙ g.lines),
      sym (ap (λ (c : Cut). c.open_line) cuts) ∙ g.left,
      omega (arith, g.counts, ap (λ (c : Cut). length c.ended) cuts),
    )

-- a piece with no line feed
pub open_fed : (b : Buffered) (n : ℕ) (open_line piece whole : List ℕ) (lines : List Line)
    → record { progress = record { count = n; open_line = open_line }; lines = lines } ≡ b
    → has_line_feed open_line ≡ false → has_line_feed piece ≡ false → whole ≡ open_line ++ piece
    → (lines ≡ b.lines ++ fed_lines b.progress piece)
    × (record { count = n; open_line = whole } ≡ fed b.progress piece)
open_fed b n open_line piece whole lines e h k w =
    let parts : (cut (b.progress.open_line ++ piece) ≡ record { ended = []; open_line = open_line ++ piece })
    × (b.progress.count ≡ n) =
    open_piece b.progress n open_line piece (ap (λ (b : Buffered). b.progress) e) h k in (
      ap (λ (b : Buffered). b.lines) e ∙ sym (append-nil b.lines)
          ∙ sym (ap (λ (c : Cut). b.lines ++ numbered (b.progress.count + 1) c.ended) parts.0),
      ap (λ l. record { count = n; open_line = l }) w
          ∙ ap (λ k. record { count = k; open_line = open_line ++ piece }) {x = n} {y = b.progress.count + 0}
          (omega (arith, parts.1))
          ∙ sym (ap (λ (c : Cut). record {
            count = b.progress.count + length c.ended;
            open_line = c.open_line;
          }) parts.0),
    )

-- a piece that ends the line that is open
pub ended_fed : (b : Buffered) (n : ℕ) (open_line front line after piece : List ℕ)
    (lines middle out : List Line)
    → record { progress = record { count = n; open_line = open_line }; lines = lines } ≡ b
    → has_line_feed open_line ≡ false → piece ≡ line ++ 10 ∷ after → has_line_feed line ≡ false
    → front ≡ open_line → middle ≡ lines ++ numbered (n + 1) ((front ++ line) ∷ [])
    → out ≡ middle ++ numbered (n + 1 + 1) (cut after).ended
    → (out ≡ b.lines ++ fed_lines b.progress piece) × (fed b.progress piece
    ≡ record { count = n + 1 + length (cut after).ended; open_line = (cut after).open_line })
ended_fed b n open_line front line after piece lines middle out e h is k f m o =
    let whole : List ℕ = front ++ line in
    let later : List Line = numbered (n + 1 + 1) (cut after).ended in
    let parts : (fed_lines b.progress piece ≡ numbered (n + 1) (whole ∷ (cut after).ended))
    × (fed b.progress piece
    ≡ record { count = n + 1 + length (cut after).ended; open_line = (cut after).open_line }) =
    fed_ended b.progress n open_line line after piece whole (ap (λ (b : Buffered). b.progress) e) is h k
    (ap (λ l. l ++ line) f) in (
      o ∙ ap (λ l. l ++ later) m ∙ append_assoc lines (numbered (n + 1) (whole ∷ [])) later
          ∙ ap (λ l. lines ++ l) (sym (numbered_first (n + 1) whole (cut after).ended) ∙ sym parts.0)
          ∙ ap (λ l. l ++ fed_lines b.progress piece) (ap (λ (b : Buffered). b.lines) e),
      parts.1,
    )

-- an error, after which there may be more behind the lines
pub more_behind : {T E : Type 0} (r : Result T E) (b : Buffered) (p : Progress)
    (lines middle out first : List Line) → record { progress = p; lines = lines } ≡ b
    → middle ≡ lines ++ first → Begins middle out → OnErr r (Begins b.lines out)
more_behind (Ok x) b p lines middle out first e m g = tt
more_behind (Err d) b p lines middle out first e m g = (
  first ++ g.0,
  g.1 ∙ ap (λ l. l ++ g.0) m ∙ append_assoc lines first g.0
      ∙ ap (λ (b : Buffered). b.lines ++ (first ++ g.0)) e,
)

-- a piece that ends where the line that is open does
pub line_ended : (b : Buffered) (n : ℕ) (open_line line after piece : List ℕ) (lines out : List Line)
    → record { progress = record { count = n; open_line = open_line }; lines = lines } ≡ b
    → has_line_feed open_line ≡ false → piece ≡ line ++ 10 ∷ after → has_line_feed line ≡ false
    → after ≡ []
    → out ≡ b.lines ++ numbered (b.progress.count + 1) ((b.progress.open_line ++ line) ∷ [])
    → (out ≡ b.lines ++ fed_lines b.progress piece)
    × (fed b.progress piece ≡ nothing_fed_behind (b.progress.count + 1))
line_ended b n open_line line after piece lines out e h is k none o =
    let P : Buffered → Type 0 = λ b.
    out ≡ b.lines ++ numbered (b.progress.count + 1) ((b.progress.open_line ++ line) ∷ [])
    → (out ≡ b.lines ++ fed_lines b.progress piece)
    × (fed b.progress piece ≡ nothing_fed_behind (b.progress.count + 1)) in
    let there : Buffered = record { progress = record { count = n; open_line = open_line }; lines = lines } in
    let base : P there = λ o.
    let parts = ended_fed there n open_line open_line line [] piece lines out out refl h
    (is ∙ ap (λ l. line ++ 10 ∷ l) none) k refl o (sym (append-nil out)) in (
      parts.0,
      parts.1 ∙ ap nothing_fed_behind {x = n + 1 + 0} {y = n + 1} (omega arith),
    ) in
    subst P e base o

-- bytes of which there are none
pub none_left : (bytes : List ℕ) → true ≡ (length bytes == 0) → bytes ≡ []
none_left bytes e = nil_from_length bytes (eqb-true (length bytes) 0 (sym e))
