-- How the first document of some bytes is found: the bytes before a place were read.
use Rattle.std.proofs.Common.{◌≡◌, ℕ, zero, suc, ◌+◌, ◌-◌, ◌<◌, ◌≤◌, Bool, true, false, cond}
use Rattle.std.proofs.Common.{List, [], ◌∷◌, ◌++◌, refl, sym, ◌∙◌, ap, subst, take, drop, length, get_or}
use Rattle.std.proofs.Common.{arith, length-append}
use Rattle.std.proofs.Common.{append_assoc, append-nil, add-one, length-drop, drop-cons}
use Rattle.std.proofs.lemmas.List.{take_all, drop_all, drop-drop, take-append-drop, length-take-le}
use Rattle.jp_documents.specs.Documents.{CutAt, cut_between, cut_at, onto, onto_parts, behind, first}
use Rattle.jp_documents.specs.Documents.{by_turn, turn, is_blank_byte}
use Rattle.jp_documents.specs.Documents.{place_behind_first}
use Rattle.jp_documents.specs.inner.Finding.{depth_of}
use Rattle.jp_documents.proofs.CutLaws.{Fair, fair_at}
use Rattle.jp_documents.specs.declared.place.Place.{Place}
use Rattle.jp_documents.specs.declared.place.Place.TheVariants.{Between}
use Rattle.jp_documents.specs.declared.place.Turn.{Turn}
use Rattle.jp_documents.specs.declared.place.Turn.TheVariants.{Skipped, Taken, Last, Behind}

pub onto_onto : (d e : List ℕ) (es : List (List ℕ)) (r : List ℕ) (p : Place)
    → (let c = onto_parts e es r p in onto_parts d c.ended c.open_document c.place)
    ≡ onto_parts (d ++ e) es r p
onto_onto d e [] r p = ap (λ l. record { ended = []; open_document = l; place = p })
    (sym (append_assoc d e r))
onto_onto d e (f ∷ es) r p = ap (λ l. record { ended = l ∷ es; open_document = r; place = p })
    (sym (append_assoc d e f))

pub onto_none : (es : List (List ℕ)) (r : List ℕ) (p : Place)
    → onto_parts [] es r p ≡ record { ended = es; open_document = r; place = p }
onto_none [] r p = refl
onto_none (e ∷ es) r p = refl

first_if : (t : Bool) (b : ℕ) (rest : Place → CutAt)
    → by_turn (cond t Skipped (Taken (place_behind_first b))) b rest
    ≡ cond t (rest Between) (onto (b ∷ []) (rest (place_behind_first b)))
first_if true b rest = refl
first_if false b rest = refl

pub first_between : (b : ℕ) (bs : List ℕ) → cut_at Between (b ∷ bs) ≡ first b (λ p. cut_at p bs)
first_between b bs = first_if (is_blank_byte b) b (λ p. cut_at p bs)

-- the bytes before `i` have been read: those from `from` on belong to the document that is open
pub record Scanned (start place : Place) (bytes : List ℕ) (from i : ℕ) : Type 0 where
  pub document : List ℕ
  pub is : drop from bytes ≡ document ++ drop i bytes
  pub long : length document + from ≡ i
  pub cuts : cut_at start bytes ≡ onto document (cut_at place (drop i bytes))

pub scanned_none : (start : Place) (bytes : List ℕ) → Scanned start start bytes 0 0
scanned_none start bytes = record {
  document = [];
  is = refl;
  long = refl;
  cuts = sym (onto_none (cut_at start bytes).ended (cut_at start bytes).open_document
      (cut_at start bytes).place);
}

pub next_byte : (bytes : List ℕ) (i : ℕ) → i < length bytes
    → drop i bytes ≡ get_or bytes i 0 ∷ drop (i + 1) bytes
next_byte bytes i h = rw (add-one, drop-cons bytes i 0) refl

turned : (place : Place) (bytes : List ℕ) (i : ℕ) (t : Turn) → i < length bytes
    → t ≡ turn place (get_or bytes i 0)
    → cut_at place (drop i bytes) ≡ by_turn t (get_or bytes i 0) (λ p. cut_at p (drop (i + 1) bytes))
turned place bytes i t h e =
    ap (λ l. cut_at place l) (next_byte bytes i h)
    ∙ ap (λ u. by_turn u (get_or bytes i 0) (λ p. cut_at p (drop (i + 1) bytes))) (sym e)

pub scanned_on : (start place q : Place) (bytes : List ℕ) (from i : ℕ) → Scanned start place bytes from i
    → i < length bytes → Taken q ≡ turn place (get_or bytes i 0) → Scanned start q bytes from (i + 1)
scanned_on start place q bytes from i s h e =
    let b = get_or bytes i 0 in
    let c = cut_at q (drop (i + 1) bytes) in
    record {
      document = s.document ++ b ∷ [];
      is = s.is ∙ ap (λ l. s.document ++ l) (next_byte bytes i h)
          ∙ sym (append_assoc s.document (b ∷ []) (drop (i + 1) bytes));
      long = omega (arith, s.long, length-append s.document (b ∷ []));
      cuts = s.cuts ∙ ap (λ d. onto s.document d) (turned place bytes i (Taken q) h e)
          ∙ onto_onto s.document (b ∷ []) c.ended c.open_document c.place;
    }

-- bytes that the document takes
pub scanned_over : (start place here : Place) (bytes : List ℕ) (from i n : ℕ)
    → Scanned start place bytes from i
    → n ≤ length (drop i bytes)
    → cut_at place (drop i bytes) ≡ onto (take n (drop i bytes)) (cut_at here (drop n (drop i bytes)))
    → Scanned start here bytes from (i + n)
scanned_over start place here bytes from i n s h e =
    let rest = drop i bytes in
    let run = take n rest in
    let c = cut_at here (drop n rest) in
    record {
      document = s.document ++ run;
      is = s.is ∙ ap (λ l. s.document ++ l) (sym (take-append-drop n rest))
          ∙ sym (append_assoc s.document run (drop n rest))
          ∙ ap (λ l. (s.document ++ run) ++ l) (drop-drop n i bytes);
      long = omega (arith, s.long, length-append s.document run, length-take-le n rest h);
      cuts = s.cuts ∙ ap (λ d. onto s.document d) e
          ∙ onto_onto s.document run c.ended c.open_document c.place
          ∙ ap (λ l. onto (s.document ++ run) (cut_at here l)) (drop-drop n i bytes);
    }

no_bytes : (d : List ℕ) (i : ℕ) → length d + i ≡ i → d ≡ []
no_bytes [] i e = refl
no_bytes (x ∷ xs) i e = absurd (omega (arith, e))

pub scanned_past : (start place : Place) (bytes : List ℕ) (from i : ℕ) → Scanned start place bytes from i
    → from ≡ i → i < length bytes → Skipped ≡ turn place (get_or bytes i 0) → place ≡ Between
    → Scanned start place bytes (i + 1) (i + 1)
scanned_past start place bytes from i s f h e b =
    let none : s.document ≡ [] = no_bytes s.document i (omega (arith, s.long, f)) in
    let c = cut_at Between (drop (i + 1) bytes) in
    record {
      document = [];
      is = refl;
      long = omega arith;
      cuts = s.cuts ∙ ap (λ d. onto s.document d) (turned place bytes i Skipped h e)
          ∙ ap (λ l. onto l c) none
          ∙ ap (λ p. onto [] (cut_at p (drop (i + 1) bytes))) (sym b);
    }

taken : (d r : List ℕ) (n : ℕ) → length d ≡ n → take n (d ++ r) ≡ d
taken [] r n e = rw (sym e) refl
taken (x ∷ xs) r zero e = absurd (omega (arith, e))
taken (x ∷ xs) r (suc n) e = ap (λ l. x ∷ l) (taken xs r n (omega (arith, e)))

-- the bytes of the document that is open
pub open_bytes : (start place : Place) (bytes : List ℕ) (from i : ℕ) (s : Scanned start place bytes from i)
    → take (i - from) (drop from bytes) ≡ s.document
open_bytes start place bytes from i s =
    ap (λ l. take (i - from) l) s.is ∙ taken s.document (drop i bytes) (i - from) (omega (arith, s.long))

pub rest_bytes : (bytes : List ℕ) (i : ℕ) → take (length bytes - i) (drop i bytes) ≡ drop i bytes
rest_bytes bytes i = take_all (length bytes - i) (drop i bytes) (omega (arith, length-drop i bytes))

pub ends_with : (start place : Place) (bytes : List ℕ) (from i : ℕ) → Scanned start place bytes from i
    → i < length bytes → Last ≡ turn place (get_or bytes i 0)
    → (cut_at start bytes ≡ behind (take (i + 1 - from) (drop from bytes)) (cut_between (drop (i + 1) bytes)))
    × (length (take (i + 1 - from) (drop from bytes)) + length (drop (i + 1) bytes) ≤ length bytes)
ends_with start place bytes from i s h e =
    let b = get_or bytes i 0 in
    let whole : take (i + 1 - from) (drop from bytes) ≡ s.document ++ b ∷ [] =
    ap (λ l. take (i + 1 - from) l) (s.is ∙ ap (λ l. s.document ++ l) (next_byte bytes i h)
    ∙ sym (append_assoc s.document (b ∷ []) (drop (i + 1) bytes)))
    ∙ taken (s.document ++ b ∷ []) (drop (i + 1) bytes) (i + 1 - from)
    (omega (arith, s.long, length-append s.document (b ∷ []))) in (
      s.cuts ∙ ap (λ d. onto s.document d) (turned place bytes i Last h e)
          ∙ ap (λ l. behind l (cut_between (drop (i + 1) bytes))) (sym whole),
      omega (arith, ap length whole, s.long, length-append s.document (b ∷ []), length-drop (i + 1) bytes),
    )

pub ends_before : (start place : Place) (bytes : List ℕ) (from i : ℕ) → Scanned start place bytes from i
    → i < length bytes → Behind ≡ turn place (get_or bytes i 0)
    → (cut_at start bytes ≡ behind (take (i - from) (drop from bytes)) (cut_between (drop i bytes)))
    × (length (take (i - from) (drop from bytes)) + length (drop i bytes) ≤ length bytes)
ends_before start place bytes from i s h e =
    let b = get_or bytes i 0 in
    let whole : take (i - from) (drop from bytes) ≡ s.document = open_bytes start place bytes from i s in (
      s.cuts ∙ ap (λ d. onto s.document d) (turned place bytes i Behind h e)
          ∙ ap (λ l. behind l (first b (λ p. cut_at p (drop (i + 1) bytes))))
          (append-nil s.document ∙ sym whole)
          ∙ ap (λ c. behind (take (i - from) (drop from bytes)) c)
          (sym (first_between b (drop (i + 1) bytes))
          ∙ ap (λ l. cut_at Between l) (sym (next_byte bytes i h))),
      omega (arith, ap length whole, s.long, length-drop i bytes),
    )

pub stays_open : (start place : Place) (bytes : List ℕ) (from : ℕ)
    → Scanned start place bytes from (length bytes)
    → (cut_at start bytes ≡ record { ended = []; open_document = drop from bytes; place = place })
    × (length (drop from bytes) ≤ length bytes)
stays_open start place bytes from s =
    let none : drop (length bytes) bytes ≡ [] = drop_all (length bytes) bytes (omega arith) in
    let whole : drop from bytes ≡ s.document ++ [] = s.is ∙ ap (λ l. s.document ++ l) none in (
      s.cuts ∙ ap (λ l. onto s.document (cut_at place l)) none
          ∙ ap (λ l. record { ended = []; open_document = l; place = place }) (sym whole),
      omega (arith, length-drop from bytes),
    )

-- what the scan keeps
pub record Going (start place : Place) (bytes : List ℕ) (from i : ℕ) : Type 0 where
  pub scanned : Scanned start place bytes from i
  pub depth : depth_of place ≤ depth_of start + i
  pub between : place ≡ Between → from ≡ i
  pub begun : start ≡ Between → (place ≡ Between → ⊥) → from < i

pub going_none : (start : Place) (bytes : List ℕ) → Going start start bytes 0 0
going_none start bytes = record {
  scanned = scanned_none start bytes;
  depth = omega arith;
  between = λ e. refl;
  begun = λ e f. absurd (f e);
}

pub going_past : (start place : Place) (bytes : List ℕ) (from i : ℕ) → Going start place bytes from i
    → i < length bytes → Skipped ≡ turn place (get_or bytes i 0) → Going start place bytes (i + 1) (i + 1)
going_past start place bytes from i g h e =
    let b : place ≡ Between = fair_at place (get_or bytes i 0) Skipped e in
    record {
      scanned = scanned_past start place bytes from i g.scanned (g.between b) h e b;
      depth = omega (arith, g.depth);
      between = λ e. refl;
      begun = λ e f. absurd (f b);
    }

pub going_over : (start place here : Place) (bytes : List ℕ) (from i n : ℕ) → Going start place bytes from i
    → n ≤ length (drop i bytes)
    → cut_at place (drop i bytes) ≡ onto (take n (drop i bytes)) (cut_at here (drop n (drop i bytes)))
    → depth_of here ≡ depth_of place → (place ≡ Between → (n ≡ 0) × (here ≡ Between))
    → (here ≡ Between → place ≡ Between) → Going start here bytes from (i + n)
going_over start place here bytes from i n g h e d none between = record {
  scanned = scanned_over start place here bytes from i n g.scanned h e;
  depth = omega (arith, g.depth, d);
  between = λ b. let p = between b in omega (arith, g.between p, (none p).0);
  begun = λ b k. let low = g.begun b (λ p. k (none p).1) in omega arith;
}

-- the same, of the bytes from there on
pub going_passed : (start place here : Place) (bytes rest : List ℕ) (from i n : ℕ)
    → Going start place bytes from i → rest ≡ drop i bytes → n ≤ length rest
    → cut_at place rest ≡ onto (take n rest) (cut_at here (drop n rest)) → depth_of here ≡ depth_of place
    → (place ≡ Between → (n ≡ 0) × (here ≡ Between)) → (here ≡ Between → place ≡ Between)
    → Going start here bytes from (i + n)
going_passed start place here bytes rest from i n g r h e d none between =
    going_over start place here bytes from i n g (subst (λ l. n ≤ length l) r h)
    (subst (λ l. cut_at place l ≡ onto (take n l) (cut_at here (drop n l))) r e) d none between

from_low : (start place : Place) (bytes : List ℕ) (from i : ℕ) → Scanned start place bytes from i
    → from < i + 1
from_low start place bytes from i s = omega (arith, s.long)

pub going_on : (start place q : Place) (bytes : List ℕ) (from i : ℕ) → Going start place bytes from i
    → i < length bytes → Taken q ≡ turn place (get_or bytes i 0) → Going start q bytes from (i + 1)
going_on start place q bytes from i g h e =
    let f : Fair place (Taken q) = fair_at place (get_or bytes i 0) (Taken q) e in
    record {
      scanned = scanned_on start place q bytes from i g.scanned h e;
      depth = omega (arith, g.depth, f.0);
      between = λ e. absurd (f.1 e);
      begun = λ e k. from_low start place bytes from i g.scanned;
    }

pub going_last : (start place : Place) (bytes : List ℕ) (from i : ℕ) → Going start place bytes from i
    → i < length bytes → Last ≡ turn place (get_or bytes i 0)
    → (cut_at start bytes ≡ behind (take (i + 1 - from) (drop from bytes)) (cut_between (drop (i + 1) bytes)))
    × (length (take (i + 1 - from) (drop from bytes)) + length (drop (i + 1) bytes) ≤ length bytes)
    × (start ≡ Between → length (drop (i + 1) bytes) < length bytes)
going_last start place bytes from i g h e =
    let r = ends_with start place bytes from i g.scanned h e in
    (r.0, r.1, λ s. omega (arith, length-drop (i + 1) bytes))

pub going_behind : (start place : Place) (bytes : List ℕ) (from i : ℕ) → Going start place bytes from i
    → i < length bytes → Behind ≡ turn place (get_or bytes i 0)
    → (cut_at start bytes ≡ behind (take (i - from) (drop from bytes)) (cut_between (drop i bytes)))
    × (length (take (i - from) (drop from bytes)) + length (drop i bytes) ≤ length bytes)
    × (start ≡ Between → length (drop i bytes) < length bytes)
going_behind start place bytes from i g h e =
    let r = ends_before start place bytes from i g.scanned h e in
    (r.0, r.1, λ s. omega (arith, length-drop i bytes, g.begun s (fair_at place (get_or bytes i 0) Behind e)))

pub going_open : (start place : Place) (bytes : List ℕ) (from i : ℕ) → Going start place bytes from i
    → i ≡ length bytes → (cut_at start bytes ≡ record {
      ended = [];
      open_document = drop from bytes;
      place =
          place;
    })
    × (length (drop from bytes) ≤ length bytes)
going_open start place bytes from i g e =
    let P : ℕ → Type 0 = λ n. Scanned start place bytes from n in
    stays_open start place bytes from (subst P e g.scanned)
