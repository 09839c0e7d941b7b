-- Documents begin with a byte that is no blank.
use Rattle.std.proofs.Common.{◌≡◌, ℕ, ◌+◌, ◌==◌, ◌||◌, ◌&&◌, Bool, true, false, not, List, [], ◌∷◌, ◌++◌}
use Rattle.std.proofs.Common.{refl, sym, subst, ap}
use Rattle.std.specs.List.{list_all, enumerate_from}
use Rattle.jp_documents.specs.Documents.{CutAt, cut_at, all_documents, onto, onto_parts, first, by_turn}
use Rattle.jp_documents.specs.Documents.{turn, is_blank_byte}
use Rattle.jp_doc.specs.Feeding.{last_line, numbered}
use Rattle.jp_doc.specs.Lines.{is_blank}
use Rattle.jp_documents.specs.Documents.{place_behind_first}
use Rattle.jp_documents.specs.Whole.{begins}
use Rattle.jp_documents.proofs.CutLaws.{Fair, fair_at}
use Rattle.jp_documents.specs.declared.place.Place.{Place}
use Rattle.jp_documents.specs.declared.place.Place.TheVariants.{Between, InWord, InBrackets, InText, InEscape}
use Rattle.jp_documents.specs.declared.place.Turn.{Turn}
use Rattle.jp_documents.specs.declared.place.Turn.TheVariants.{Skipped, Taken, Last, Behind}

-- all begin so, the open one too
abbrev All_begin : List (List ℕ) → List ℕ → Type 0
All_begin ds o = list_all begins (ds ++ last_line o) ≡ true

-- all but the first, of which only the rest is here
abbrev Others_begin : List (List ℕ) → List ℕ → Type 0
Others_begin [] o = Unit {0}
Others_begin (d ∷ ds) o = All_begin ds o

abbrev Begun : Place → List (List ℕ) → List ℕ → Type 0
Begun Between ds o = All_begin ds o
Begun InWord ds o = Others_begin ds o
Begun (InBrackets d l) ds o = Others_begin ds o
Begun (InText d) ds o = Others_begin ds o
Begun (InEscape d) ds o = Others_begin ds o

others_in : (p : Place) (ds : List (List ℕ)) (o : List ℕ) → (p ≡ Between → ⊥) → Others_begin ds o
    → Begun p ds o
others_in Between ds o n h = absurd (n refl)
others_in InWord ds o n h = h
others_in (InBrackets d l) ds o n h = h
others_in (InText d) ds o n h = h
others_in (InEscape d) ds o n h = h

others_out : (p : Place) (ds : List (List ℕ)) (o : List ℕ) → (p ≡ Between → ⊥) → Begun p ds o
    → Others_begin ds o
others_out Between ds o n h = absurd (n refl)
others_out InWord ds o n h = h
others_out (InBrackets d l) ds o n h = h
others_out (InText d) ds o n h = h
others_out (InEscape d) ds o n h = h

others_onto : (x : ℕ) (ds : List (List ℕ)) (o : List ℕ) (q : Place) → Others_begin ds o
    → (let c = onto_parts (x ∷ []) ds o q in Others_begin c.ended c.open_document)
others_onto x [] o q h = tt
others_onto x (d ∷ ds) o q h = h

all_onto : (x : ℕ) (ds : List (List ℕ)) (o : List ℕ) (q : Place) → is_blank_byte x ≡ false → Others_begin ds o
    → (let c = onto_parts (x ∷ []) ds o q in All_begin c.ended c.open_document)
all_onto x [] o q e h = rw e refl
all_onto x (d ∷ ds) o q e h = rw e h

blank_turn : (t : Bool) (x : ℕ) (q : Place) → is_blank_byte x ≡ t → turn Between x ≡ Taken q
    → is_blank_byte x ≡ false
blank_turn true x q e h = absurd (let s : Skipped ≡ Taken q = rw e at h in cc)
blank_turn false x q e h = e

on_cases : (p q : Place) (x : ℕ) (ds : List (List ℕ)) (o : List ℕ) (r : Place) → turn p x ≡ Taken q
    → Others_begin ds o
    → (let c = onto_parts (x ∷ []) ds o r in Begun p c.ended c.open_document)
on_cases Between q x ds o r e h = all_onto x ds o r (blank_turn (is_blank_byte x) x q refl e) h
on_cases InWord q x ds o r e h = others_onto x ds o r h
on_cases (InBrackets d l) q x ds o r e h = others_onto x ds o r h
on_cases (InText d) q x ds o r e h = others_onto x ds o r h
on_cases (InEscape d) q x ds o r e h = others_onto x ds o r h

abbrev Cut_begun : Place → CutAt → Type 0
Cut_begun p c = Begun p c.ended c.open_document

goes : (p q : Place) (x : ℕ) (xs : List ℕ) → turn p x ≡ Taken q → Cut_begun q (cut_at q xs)
    → Cut_begun p (onto (x ∷ []) (cut_at q xs))
goes p q x xs e h =
    let c = cut_at q xs in
    let f : Fair p (Taken q) = fair_at p x (Taken q) (sym e) in
    on_cases p q x c.ended c.open_document c.place e (others_out q c.ended c.open_document f.1 h)

first_turn : (x : ℕ) → is_blank_byte x ≡ false → turn Between x ≡ Taken (place_behind_first x)
first_turn x e = rw e refl

first_begun : (t : Bool) (x : ℕ) (xs : List ℕ) → is_blank_byte x ≡ t
    → ((q : Place) → Cut_begun q (cut_at q xs))
    → Cut_begun Between (first x (λ q. cut_at q xs))
first_begun true x xs e h = rw e (h Between)
first_begun false x xs e h =
    let n = place_behind_first x in
    let g : Cut_begun Between (onto (x ∷ []) (cut_at n xs)) = goes Between n x xs (first_turn x e) (h n) in
    rw e g

turn_begun : (t : Turn) (p : Place) (x : ℕ) (xs : List ℕ) → turn p x ≡ t
    → ((q : Place) → Cut_begun q (cut_at q xs))
    → Cut_begun p (by_turn t x (λ q. cut_at q xs))
turn_begun Skipped p x xs e h =
    let f : Fair p Skipped = fair_at p x Skipped (sym e) in
    let P : Place → Type 0 = λ q. Cut_begun q (cut_at Between xs) in
    subst P (sym f) (h Between)
turn_begun (Taken q) p x xs e h = goes p q x xs e (h q)
turn_begun Last p x xs e h =
    let f : Fair p Last = fair_at p x Last (sym e) in
    let c = cut_at Between xs in
    others_in p ((x ∷ []) ∷ c.ended) c.open_document f (h Between)
turn_begun Behind p x xs e h =
    let f : Fair p Behind = fair_at p x Behind (sym e) in
    let c = first x (λ q. cut_at q xs) in
    others_in p ([] ∷ c.ended) c.open_document f (first_begun (is_blank_byte x) x xs refl h)

none_begun : (p : Place) → Begun p [] []
none_begun Between = refl
none_begun InWord = tt
none_begun (InBrackets d l) = tt
none_begun (InText d) = tt
none_begun (InEscape d) = tt

begun : (p : Place) (xs : List ℕ) → Cut_begun p (cut_at p xs)
begun p [] = none_begun p
begun p (x ∷ xs) = turn_begun (turn p x) p x xs refl (λ q. begun q xs)

pub documents_begin : (bytes : List ℕ) → list_all begins (all_documents bytes) ≡ true
documents_begin bytes = begun Between bytes

-- ---- numbers

both : (a b : Bool) → (a && b) ≡ true → (a ≡ true) × (b ≡ true)
both true b e = (refl, e)
both false b e = absurd (cc)

-- what is no blank byte is no blank of a line
no_blank : (a b c d : Bool) → not (a || b || c || d) ≡ true → (a || b || d) ≡ false
no_blank true b c d e = absurd (cc)
no_blank false true c d e = absurd (cc)
no_blank false false true d e = absurd (cc)
no_blank false false false true e = absurd (cc)
no_blank false false false false e = refl

not_blank : (d : List ℕ) → begins d ≡ true → is_blank d ≡ false
not_blank [] e = absurd (cc)
not_blank (x ∷ xs) e = rw (no_blank (x == 32) (x == 9) (x == 10) (x == 13) e) refl

numbered_all : (n : ℕ) (ds : List (List ℕ)) → list_all begins ds ≡ true → numbered n ds ≡ enumerate_from n ds
numbered_all n [] e = refl
numbered_all n (d ∷ ds) e =
    let parts = both (begins d) (list_all begins ds) e in
    rw (not_blank d parts.0) (ap (λ l. (n, d) ∷ l) (numbered_all (n + 1) ds parts.1))

pub all_numbered : (n : ℕ) (bytes : List ℕ) → numbered n (all_documents bytes)
    ≡ enumerate_from n (all_documents bytes)
all_numbered n bytes = numbered_all n (all_documents bytes) (documents_begin bytes)
