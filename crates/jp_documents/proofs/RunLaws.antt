-- Runs of bytes over which a document goes on, in brackets and in a string.
use Rattle.std.proofs.Common.{◌≡◌, ℕ, suc, ◌+◌, ◌-◌, ◌==◌, ◌||◌, Bool, true, false, not, cond, List, [], ◌∷◌}
use Rattle.std.proofs.Common.{refl, sym, ◌∙◌, ap, subst, take, drop, length, get_or, arith, eqb-true, Some}
use Rattle.std.proofs.Common.{ap₂}
use Rattle.std.specs.List.{slice_get}
use Rattle.std.proofs.lemmas.Option.{get_or_from_slice_get}
use Rattle.jp_documents.specs.Documents.{cut_at, onto, by_turn, turn, lead_behind, opened, is_opening}
use Rattle.jp_documents.specs.Documents.{is_closing}
use Rattle.jp_documents.specs.inner.Finding.{matters_in_brackets, matters_in_text, run_len, lead_over}
use Rattle.jp_documents.specs.declared.place.Lead.{Lead}
use Rattle.jp_documents.specs.declared.place.Lead.TheVariants.{MayBegin, Within, AtLine}
use Rattle.jp_documents.specs.declared.place.Turn.TheVariants.{Taken}
use Rattle.jp_documents.specs.declared.place.Place.{Place}
use Rattle.jp_documents.specs.declared.place.Place.TheVariants.{InBrackets, InText}
use Rattle.jp_documents.proofs.ScanLaws.{onto_onto, onto_none}

neither : (a b : Bool) → (a || b) ≡ false → (a ≡ false) × (b ≡ false)
neither true b e = absurd (cc)
neither false b e = (refl, e)

-- ---- in brackets

-- so many bytes in brackets are taken
abbrev Over : ℕ → Lead → List ℕ → ℕ → Type 0
Over d l bytes n =
    cut_at (InBrackets d l) bytes
    ≡ onto (take n bytes) (cut_at (InBrackets d (lead_over l (take n bytes))) (drop n bytes))

none_over : (d : ℕ) (l : Lead) (bytes : List ℕ) → Over d l bytes 0
none_over d l bytes = let c = cut_at (InBrackets d l) bytes in sym (onto_none c.ended c.open_document c.place)

turn_over : (d : ℕ) (l : Lead) (x : ℕ) → matters_in_brackets x ≡ false
    → turn (InBrackets d l) x ≡ Taken (InBrackets d (lead_behind l x))
turn_over d l x e =
    let a = neither ((x == 34) || (x == 123) || (x == 125) || (x == 91)) (x == 93) e in
    let b = neither ((x == 34) || (x == 123) || (x == 125)) (x == 91) a.0 in
    let c = neither ((x == 34) || (x == 123)) (x == 125) b.0 in
    let f = neither (x == 34) (x == 123) c.0 in
    rw (f.0, f.1, c.1, b.1, a.1) refl

one_over : (t : Bool) (d : ℕ) (l : Lead) (x : ℕ) (xs : List ℕ) (n : ℕ) → matters_in_brackets x ≡ t
    → Over d (lead_behind l x) xs n → Over d l (x ∷ xs) (cond (not t) (1 + n) 0)
one_over true d l x xs n e h = none_over d l (x ∷ xs)
one_over false d l x xs n e h =
    let run = take n xs in
    let c = cut_at (InBrackets d (lead_over (lead_behind l x) run)) (drop n xs) in
    let more : Over d l (x ∷ xs) (suc n) =
    ap (λ t. by_turn t x (λ p. cut_at p xs)) (turn_over d l x e) ∙ ap (λ c. onto (x ∷ []) c) h
    ∙ onto_onto (x ∷ []) run c.ended c.open_document c.place in
    subst (λ m. Over d l (x ∷ xs) m) {x = suc n} {y = 1 + n} (omega arith) more

pub over_brackets : (d : ℕ) (l : Lead) (bytes : List ℕ) → Over d l bytes (run_len matters_in_brackets bytes)
over_brackets d l [] = refl
over_brackets d l (x ∷ xs) =
    one_over (matters_in_brackets x) d l x xs (run_len matters_in_brackets xs) refl
    (over_brackets d (lead_behind l x) xs)

-- ---- in a string

abbrev Over_text : ℕ → List ℕ → ℕ → Type 0
Over_text d bytes n = cut_at (InText d) bytes ≡ onto (take n bytes) (cut_at (InText d) (drop n bytes))

turn_text : (d x : ℕ) → matters_in_text x ≡ false → turn (InText d) x ≡ Taken (InText d)
turn_text d x e =
    let a = neither ((x == 34) || (x == 92)) (x == 10) e in
    let b = neither (x == 34) (x == 92) a.0 in
    rw (b.0, b.1, a.1) refl

one_text : (t : Bool) (d x : ℕ) (xs : List ℕ) (n : ℕ) → matters_in_text x ≡ t → Over_text d xs n
    → Over_text d (x ∷ xs) (cond (not t) (1 + n) 0)
one_text true d x xs n e h =
    let c = cut_at (InText d) (x ∷ xs) in sym (onto_none c.ended c.open_document c.place)
one_text false d x xs n e h =
    let c = cut_at (InText d) (drop n xs) in
    let more : Over_text d (x ∷ xs) (suc n) =
    ap (λ t. by_turn t x (λ p. cut_at p xs)) (turn_text d x e) ∙ ap (λ c. onto (x ∷ []) c) h
    ∙ onto_onto (x ∷ []) (take n xs) c.ended c.open_document c.place in
    subst (λ m. Over_text d (x ∷ xs) m) {x = suc n} {y = 1 + n} (omega arith) more

pub over_text : (d : ℕ) (bytes : List ℕ) → Over_text d bytes (run_len matters_in_text bytes)
over_text d [] = refl
over_text d (x ∷ xs) =
    one_text (matters_in_text x) d x xs (run_len matters_in_text xs) refl (over_text d xs)

-- ---- what leads to the byte behind a run

-- bytes that are cut alike, whatever leads to the first of them
abbrev pub Alike : Lead → List ℕ → Type 0
Alike l bytes = (d : ℕ) → cut_at (InBrackets d l) bytes ≡ cut_at (InBrackets d Within) bytes

by_turns : (d : ℕ) (l : Lead) (x : ℕ) (xs : List ℕ) → turn (InBrackets d l) x ≡ turn (InBrackets d Within) x
    → cut_at (InBrackets d l) (x ∷ xs) ≡ cut_at (InBrackets d Within) (x ∷ xs)
by_turns d l x xs e = ap (λ t. by_turn t x (λ p. cut_at p xs)) e

pub alike_quote : (l : Lead) (x : ℕ) (xs : List ℕ) → (x == 34) ≡ true → Alike l (x ∷ xs)
alike_quote l x xs e d = rw (eqb-true x 34 e) refl

either : (a b : Bool) (P : Type 0) → (a || b) ≡ true → (a ≡ true → P) → (b ≡ true → P) → P
either true b P e f g = f refl
either false b P e f g = g e

pub alike_closing : (l : Lead) (x : ℕ) (xs : List ℕ) → is_closing x ≡ true → Alike l (x ∷ xs)
alike_closing l x xs e d =
    either (x == 125) (x == 93) (cut_at (InBrackets d l) (x ∷ xs) ≡ cut_at (InBrackets d Within) (x ∷ xs)) e
    (λ f. rw (eqb-true x 125 f) refl) (λ f. rw (eqb-true x 93 f) refl)

opened_alike : (l : Lead) (d : ℕ) → (l ≡ AtLine → ⊥) → opened l d ≡ opened Within d
opened_alike MayBegin d n = refl
opened_alike Within d n = refl
opened_alike AtLine d n = absurd (n refl)

pub alike_opening : (l : Lead) (x : ℕ) (xs : List ℕ) → is_opening x ≡ true → (l ≡ AtLine → ⊥)
    → Alike l (x ∷ xs)
alike_opening l x xs e n d = by_turns d l x xs (rw e (opened_alike l d n))

within_if : (t : Bool) → cond t MayBegin Within ≡ AtLine → ⊥
within_if true e = cc
within_if false e = cc

begin_if : (s t : Bool) → cond s MayBegin (cond t MayBegin Within) ≡ AtLine → ⊥
begin_if true t e = cc
begin_if false t e = within_if t e

no_line : (l : Lead) (x : ℕ) → (x == 10) ≡ false → lead_behind l x ≡ AtLine → ⊥
no_line MayBegin x n e = begin_if _ _ e
no_line Within x n e = within_if _ (rw n at e)
no_line AtLine x n e = within_if _ (rw n at e)

-- behind a byte that is no line feed no line begins
pub no_line_over : (l : Lead) (x : ℕ) (xs : List ℕ) → (get_or (x ∷ xs) (length xs) 0 == 10) ≡ false
    → lead_over l (x ∷ xs) ≡ AtLine → ⊥
no_line_over l x [] n e = no_line l x n e
no_line_over l x (y ∷ ys) n e = no_line_over (lead_behind l x) y ys n e

none_at : (i x : ℕ) → slice_get [] i ≡ Some x → ⊥
none_at i x e = cc

-- an opening bracket behind a run that ends with no line feed
pub opening_alike : (run rest : List ℕ) (x y : ℕ) → Some x ≡ slice_get rest 0 → is_opening x ≡ true
    → Some y ≡ slice_get run (length run - 1) → (y == 10) ≡ false → (l : Lead) → Alike (lead_over l run) rest
opening_alike run [] x y e o f n l = absurd (none_at 0 x (sym e))
opening_alike [] (b ∷ rest) x y e o f n l = absurd (none_at 0 y (sym f))
opening_alike (r ∷ run) (b ∷ rest) x y e o f n l =
    let first : x ≡ b = cc in
    let last : slice_get (r ∷ run) (length run) ≡ Some y =
    ap (λ k. slice_get (r ∷ run) k) {x = length run} {y = suc (length run) - 1} (omega arith) ∙ sym f in
    let is_last : get_or (r ∷ run) (length run) 0 ≡ y =
    get_or_from_slice_get (r ∷ run) (length run) y 0 last in
    alike_opening (lead_over l (r ∷ run)) b rest (ap is_opening (sym first) ∙ o)
    (no_line_over l r run (ap (λ z. z == 10) is_last ∙ n))

-- ---- what is passed over

pub passed_brackets : (place : Place) (d : ℕ) (l m : Lead) (bytes run rest : List ℕ) (n k : ℕ)
    → place ≡ InBrackets d l → n ≡ run_len matters_in_brackets bytes → k ≡ n
    → run ≡ take n bytes → rest ≡ drop n bytes
    → cut_at (InBrackets d (lead_over l run)) rest ≡ cut_at (InBrackets d m) rest
    → cut_at place bytes ≡ onto (take k bytes) (cut_at (InBrackets d m) (drop k bytes))
passed_brackets place d l m bytes run rest n k p v j f b a =
    let over : Over d l bytes n = subst (λ x. Over d l bytes x) (sym v) (over_brackets d l bytes) in
    let same : cut_at (InBrackets d (lead_over l (take n bytes))) (drop n bytes)
    ≡ cut_at (InBrackets d m) (drop n bytes) =
    ap₂ (λ x y. cut_at (InBrackets d (lead_over l x)) y) (sym f) (sym b) ∙ a
    ∙ ap (λ y. cut_at (InBrackets d m) y) b in
    ap (λ q. cut_at q bytes) p ∙ over ∙ ap (λ c. onto (take n bytes) c) same
    ∙ ap (λ x. onto (take x bytes) (cut_at (InBrackets d m) (drop x bytes))) (sym j)

pub passed_text : (place : Place) (d : ℕ) (bytes : List ℕ) (n : ℕ) → place ≡ InText d
    → n ≡ run_len matters_in_text bytes
    → cut_at place bytes ≡ onto (take n bytes) (cut_at (InText d) (drop n bytes))
passed_text place d bytes n p v =
    ap (λ q. cut_at q bytes) p ∙ over_text d bytes
    ∙ ap (λ x. onto (take x bytes) (cut_at (InText d) (drop x bytes))) (sym v)
