-- Documents that come in pieces, and are added one after another.
use Rattle.std.proofs.Common.{◌≡◌, ℕ, suc, ◌+◌, ◌<◌, ◌≤◌, List, [], ◌∷◌, ◌++◌, refl, sym, ◌∙◌, ap, length}
use Rattle.std.proofs.Common.{arith}
use Rattle.std.proofs.Common.{length-append, append_assoc, append-nil, subst, zero-add, Result, Ok, Err}
use Rattle.std.proofs.Common.{OnErr}
use Rattle.std.specs.List.{concat}
use Rattle.jp_doc.specs.Feeding.{Progress, Cut, last_line, numbered, nothing_fed}
use Rattle.jp_doc.specs.Lines.{Line}
use Rattle.jp_doc.proofs.CutLaws.{numbered_first, numbered_both}
use Rattle.jp_buffer.specs.Buffered.{Buffered, nothing_fed_behind}
use Rattle.jp_documents.specs.Documents.{CutAt, cut, cut_between, cut_at, behind, all_documents, documents}
use Rattle.jp_documents.specs.Feeding.{fed, fed_documents, documents_of_pieces, after_pieces}
use Rattle.jp_documents.specs.inner.Finding.{depth_of, Begins}
use Rattle.jp_documents.specs.declared.place.Place.{Place}
use Rattle.jp_documents.specs.declared.place.Place.TheVariants.{Between}
use Rattle.jp_documents.proofs.BeginLaws.{all_numbered}
use Rattle.jp_documents.proofs.CutLaws.{cut_both, open_again, behind_open, deep}

-- the documents that were added, and those that the rest adds, are those of the bytes
pub record Goes (all out : List Line) (before count : ℕ) (bytes rest : List ℕ) : Type 0 where
  pub added : List Line
  pub is : out ≡ all ++ added
  pub whole : added ++ numbered (count + 1) (cut_between rest).ended
      ≡ numbered (before + 1) (cut_between bytes).ended
  pub left : (cut_between rest).open_document ≡ (cut_between bytes).open_document
  pub stands : (cut_between rest).place ≡ (cut_between bytes).place
  pub counts : count + length (cut_between rest).ended ≡ before + length (cut_between bytes).ended
  pub long : count + length rest ≤ before + length bytes

pub goes_none : (all : List Line) (before : ℕ) (bytes : List ℕ) → Goes all all before before bytes bytes
goes_none all before bytes = record {
  added = [];
  is = sym (append-nil all);
  whole = refl;
  left = refl;
  stands = refl;
  counts = refl;
  long = omega arith;
}

pub goes_on : (all out new : List Line) (before count : ℕ) (bytes rest document after : List ℕ)
    → Goes all out before count bytes rest → cut_between rest ≡ behind document (cut_between after)
    → length after < length rest → new ≡ out ++ numbered (count + 1) (document ∷ [])
    → Goes all new before (count + 1) bytes after
goes_on all out new before count bytes rest document after g e s a =
    let one : List Line = numbered (count + 1) (document ∷ []) in
    let later = (cut_between after).ended in
    record {
      added = g.added ++ one;
      is = a ∙ ap (λ l. l ++ one) g.is ∙ append_assoc all g.added one;
      whole = append_assoc g.added one (numbered (count + 1 + 1) later)
          ∙ ap (λ l. g.added ++ l) (sym (numbered_first (count + 1) document later))
          ∙ sym (ap (λ (c : CutAt). g.added ++ numbered (count + 1) c.ended) e) ∙ g.whole;
      left = sym (ap (λ (c : CutAt). c.open_document) e) ∙ g.left;
      stands = sym (ap (λ (c : CutAt). c.place) e) ∙ g.stands;
      counts = omega (arith, g.counts, ap (λ (c : CutAt). length c.ended) e);
      long = omega (arith, g.long, s);
    }

pub goes_end : (all out : List Line) (before count : ℕ) (bytes rest document : List ℕ) (place : Place)
    → Goes all out before count bytes rest
    → cut_between rest ≡ record { ended = []; open_document = document; place = place }
    → (out ≡ all ++ numbered (before + 1) (cut_between bytes).ended)
    × (document ≡ (cut_between bytes).open_document)
    × (count ≡ before + length (cut_between bytes).ended) × (place ≡ (cut_between bytes).place)
goes_end all out before count bytes rest document place g e = (
  g.is ∙ ap (λ l. all ++ l) (sym (append-nil g.added)
      ∙ sym (ap (λ (c : CutAt). g.added ++ numbered (count + 1) c.ended) e) ∙ g.whole),
  sym (ap (λ (c : CutAt). c.open_document) e) ∙ g.left,
  omega (arith, g.counts, ap (λ (c : CutAt). length c.ended) e),
  sym (ap (λ (c : CutAt). c.place) e) ∙ g.stands,
)

-- an open document is less deep than it is long
pub deep_open : (o : List ℕ) (p : Place) → cut_between o ≡ record { ended = []; open_document = o; place = p }
    → depth_of p ≤ length o
deep_open o p e = omega (arith, deep Between o, ap (λ (c : CutAt). depth_of c.place) e)

-- a piece in which the open document does not end
pub piece_open : (o more piece : List ℕ) (p q : Place)
    → cut_between o ≡ record { ended = []; open_document = o; place = p }
    → cut_at p piece ≡ record { ended = []; open_document = more; place = q }
    → (cut_between (o ++ piece) ≡ record { ended = []; open_document = o ++ more; place = q })
    × (cut_between (o ++ more) ≡ record { ended = []; open_document = o ++ more; place = q })
piece_open o more piece p q e f =
    let whole : cut_between (o ++ piece) ≡ record { ended = []; open_document = o ++ more; place = q } =
    rw (behind_open o p piece e, f) refl in (
      whole,
      ap (λ (c : CutAt). cut_between c.open_document) (sym whole) ∙ open_again (o ++ piece)
          ∙ ap (λ (c : CutAt). record { ended = []; open_document = c.open_document; place = c.place }) whole,
    )

-- a piece in which it ends
piece_ends : (o document piece after : List ℕ) (p : Place)
    → cut_between o ≡ record { ended = []; open_document = o; place = p }
    → cut_at p piece ≡ behind document (cut_between after)
    → cut_between (o ++ piece) ≡ behind (o ++ document) (cut_between after)
piece_ends o document piece after p e f = rw (behind_open o p piece e, f) refl

-- what a buffer with these parts means
abbrev parts : ℕ → List ℕ → List Line → Buffered
parts n o ds = record { progress = record { count = n; open_line = o }; lines = ds }

pub open_fed : (b : Buffered) (n : ℕ) (o more piece whole : List ℕ) (ds : List Line) (p q : Place)
    → record { progress = record { count = n; open_line = o }; lines = ds } ≡ b
    → cut_between o ≡ record { ended = []; open_document = o; place = p }
    → cut_at p piece ≡ record { ended = []; open_document = more; place = q } → whole ≡ o ++ more
    → (ds ≡ b.lines ++ fed_documents b.progress piece)
    × (record { count = n; open_line = whole } ≡ fed b.progress piece)
open_fed b n o more piece whole ds p q e f g w =
    let c = (piece_open o more piece p q f g).0 in
    let P : Buffered → Type 0 = λ b. (ds ≡ b.lines ++ fed_documents b.progress piece)
    × (record { count = n; open_line = whole } ≡ fed b.progress piece) in
    let base : P (parts n o ds) = (
      sym (ap (λ (k : CutAt). ds ++ numbered (n + 1) k.ended) c ∙ append-nil ds),
      ap (λ l. record { count = n; open_line = l }) w
          ∙ ap (λ m. record { count = m; open_line = o ++ more }) {x = n} {y = n + 0} (omega arith)
          ∙ sym (ap (λ (k : CutAt). record { count = n + length k.ended; open_line = k.open_document }) c),
    ) in
    subst P e base

pub ended_fed : (b : Buffered) (n count : ℕ) (o front document after piece rest : List ℕ)
    (ds middle out : List Line) (p : Place)
    → record { progress = record { count = n; open_line = o }; lines = ds } ≡ b
    → cut_between o ≡ record { ended = []; open_document = o; place = p }
    → cut_at p piece ≡ behind document (cut_between after) → front ≡ o
    → middle ≡ ds ++ numbered (n + 1) ((front ++ document) ∷ [])
    → out ≡ middle ++ numbered (n + 1 + 1) (cut_between after).ended
    → count ≡ n + 1 + length (cut_between after).ended → rest ≡ (cut_between after).open_document
    → (out ≡ b.lines ++ fed_documents b.progress piece)
    × (record { count = count; open_line = rest } ≡ fed b.progress piece)
ended_fed b n count o front document after piece rest ds middle out p e f g r m u k l =
    let c : cut_between (o ++ piece) ≡ behind (o ++ document) (cut_between after) =
    piece_ends o document piece after p f g in
    let ended = (cut_between after).ended in
    let later : List Line = numbered (n + 1 + 1) ended in
    let P : Buffered → Type 0 = λ b. (out ≡ b.lines ++ fed_documents b.progress piece)
    × (record { count = count; open_line = rest } ≡ fed b.progress piece) in
    let base : P (parts n o ds) = (
      u ∙ ap (λ x. x ++ later) m ∙ append_assoc ds (numbered (n + 1) ((front ++ document) ∷ [])) later
          ∙ ap (λ x. ds ++ (numbered (n + 1) ((x ++ document) ∷ []) ++ later)) r
          ∙ ap (λ x. ds ++ x) (sym (numbered_first (n + 1) (o ++ document) ended))
          ∙ sym (ap (λ (x : CutAt). ds ++ numbered (n + 1) x.ended) c),
      ap (λ x. record { count = count; open_line = x }) l
          ∙ ap (λ x. record { count = x; open_line = (cut_between after).open_document }) {x = count}
          {y = n + suc (length ended)} (omega (arith, k))
          ∙ sym (ap (λ (x : CutAt). record { count = n + length x.ended; open_line = x.open_document }) c),
    ) in
    subst P e base

-- what is left open by a cut is open
pub rest_open : (after rest : List ℕ) (q : Place) → rest ≡ (cut_between after).open_document
    → q ≡ (cut_between after).place → cut_between rest
    ≡ record { ended = []; open_document = rest; place = q }
rest_open after rest q e f = rw (e, f) (open_again after)

-- an error, after which there may be more behind the documents
pub more_behind : {T E : Type 0} (r : Result T E) (b : Buffered) (p : Progress)
    (ds middle out one : List Line)
    → record { progress = p; lines = ds } ≡ b → middle ≡ ds ++ one → Begins middle out
    → OnErr r (Begins b.lines out)
more_behind (Ok x) b p ds middle out one e m g = tt
more_behind (Err d) b p ds middle out one e m g = (
  one ++ g.0,
  g.1 ∙ ap (λ l. l ++ g.0) m ∙ append_assoc ds one g.0 ∙ ap (λ (b : Buffered). b.lines ++ (one ++ g.0)) e,
)

-- ---- pieces, one after another

pub cut_in_two : (a b : List ℕ) → cut (a ++ b) ≡ record {
  ended = (cut a).ended ++ (cut ((cut a).open_line ++ b)).ended;
  open_line = (cut ((cut a).open_line ++ b)).open_line;
}
cut_in_two a b = ap (λ (c : CutAt). record { ended = c.ended; open_line = c.open_document }) (cut_both a b)

pub still_open : (a : List ℕ) → cut (cut a).open_line ≡ record { ended = []; open_line = (cut a).open_line }
still_open a = ap (λ (c : CutAt). record { ended = c.ended; open_line = c.open_document }) (open_again a)

pub documents_both : (a b : List ℕ) → all_documents (a ++ b)
    ≡ (cut a).ended ++ all_documents ((cut a).open_line ++ b)
documents_both a b =
    let c = cut ((cut a).open_line ++ b) in
    ap (λ (c : Cut). c.ended ++ last_line c.open_line) (cut_in_two a b)
    ∙ append_assoc (cut a).ended c.ended (last_line c.open_line)

documents_open : (o : List ℕ) → cut o ≡ record { ended = []; open_line = o } → all_documents o ≡ last_line o
documents_open o e = ap (λ (c : Cut). c.ended ++ last_line c.open_line) e

pieces_after : (p : Progress) (pieces : List (List ℕ))
    → cut p.open_line ≡ record { ended = []; open_line = p.open_line }
    → documents_of_pieces p pieces ≡ numbered (p.count + 1) (all_documents (p.open_line ++ concat pieces))
pieces_after p [] h =
    ap (λ l. numbered (p.count + 1) l) (sym (documents_open p.open_line h)
    ∙ ap all_documents (sym (append-nil p.open_line)))
pieces_after p (piece ∷ pieces) h =
    let whole : List ℕ = p.open_line ++ piece in
    ap (λ l. numbered (p.count + 1) (cut whole).ended ++ l)
    (pieces_after (fed p piece) pieces (still_open whole))
    ∙ sym (numbered_both (p.count + 1) (p.count + length (cut whole).ended + 1) (cut whole).ended
    (all_documents ((cut whole).open_line ++ concat pieces)) (omega arith))
    ∙ ap (λ l. numbered (p.count + 1) l) (sym (documents_both whole (concat pieces))
    ∙ ap all_documents (append_assoc p.open_line piece (concat pieces)))

count_after : (p : Progress) (pieces : List (List ℕ))
    → cut p.open_line ≡ record { ended = []; open_line = p.open_line }
    → (after_pieces p pieces).count ≡ p.count + length (all_documents (p.open_line ++ concat pieces))
count_after p [] h =
    ap (λ l. p.count + length l) (sym (documents_open p.open_line h)
    ∙ ap all_documents (sym (append-nil p.open_line)))
count_after p (piece ∷ pieces) h =
    let whole : List ℕ = p.open_line ++ piece in
    let later = all_documents ((cut whole).open_line ++ concat pieces) in
    let same : all_documents (p.open_line ++ (piece ++ concat pieces)) ≡ (cut whole).ended ++ later =
    ap all_documents (sym (append_assoc p.open_line piece (concat pieces)))
    ∙ documents_both whole (concat pieces) in
    omega (
      arith,
      count_after (fed p piece) pieces (still_open whole),
      ap length same,
      length-append (cut whole).ended later,
    )

pub pieces_documents : (pieces : List (List ℕ)) → documents_of_pieces nothing_fed pieces
    ≡ documents (concat pieces)
pieces_documents pieces = pieces_after nothing_fed pieces refl ∙ all_numbered 1 (concat pieces)

pub pieces_count : (pieces : List (List ℕ)) → (after_pieces nothing_fed pieces).count
    ≡ length (all_documents (concat pieces))
pieces_count pieces = count_after nothing_fed pieces refl ∙ zero-add (length (all_documents (concat pieces)))

pub behind_nothing_open : (a b : List ℕ) → (cut a).open_line ≡ []
    → all_documents (a ++ b) ≡ all_documents a ++ all_documents b
behind_nothing_open a b e =
    documents_both a b ∙ ap (λ o. (cut a).ended ++ all_documents (o ++ b)) e
    ∙ ap (λ l. l ++ all_documents b) (sym (append-nil (cut a).ended)
    ∙ sym (ap (λ o. (cut a).ended ++ last_line o) e))

-- a piece that ends where the document that is open does, but for what stands between documents
pub document_ended : (b : Buffered) (n : ℕ) (o document after piece : List ℕ) (ds out : List Line) (p : Place)
    → record { progress = record { count = n; open_line = o }; lines = ds } ≡ b
    → cut_between o ≡ record { ended = []; open_document = o; place = p }
    → cut_at p piece ≡ behind document (cut_between after)
    → cut_between after ≡ record { ended = []; open_document = []; place = Between }
    → out ≡ b.lines ++ numbered (b.progress.count + 1) ((b.progress.open_line ++ document) ∷ [])
    → (out ≡ b.lines ++ fed_documents b.progress piece)
    × (nothing_fed_behind (b.progress.count + 1) ≡ fed b.progress piece)
document_ended b n o document after piece ds out p e f g none m =
    let P : Buffered → Type 0 = λ b.
    out ≡ b.lines ++ numbered (b.progress.count + 1) ((b.progress.open_line ++ document) ∷ [])
    → (out ≡ b.lines ++ fed_documents b.progress piece)
    × (nothing_fed_behind (b.progress.count + 1) ≡ fed b.progress piece) in
    let ends : P (parts n o ds) = λ m.
    ended_fed (parts n o ds) n (n + 1) o o document after piece [] ds out out p refl f g refl m
    (sym (append-nil out) ∙ ap (λ (c : CutAt). out ++ numbered (n + 1 + 1) c.ended) (sym none))
    (omega (arith, ap (λ (c : CutAt). length c.ended) none))
    (ap (λ (c : CutAt). c.open_document) (sym none)) in
    subst P e ends m
