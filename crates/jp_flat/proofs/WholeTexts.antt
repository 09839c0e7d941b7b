-- The texts of a line's numbers that have a row are those that the flat reading takes, and no others.
use Rattle.std.proofs.Common.{◌≡◌, ℕ, ◌<◌, ◌^◌, Bool, true, false, not, ◌==◌, List, [], ◌∷◌, Option, Some}
use Rattle.std.proofs.Common.{None, cond, refl, sym, ap, ◌∙◌, if◌then◌else◌, subst, arith, eqb-true, ne_eqb}
use Rattle.std.proofs.lemmas.Bool.{and_parts, ltb-true}
use Rattle.std.specs.Float.{binary64, float_is_finite}
use Rattle.std.specs.Prelude.{nat_lt, nat_le, slice_index}
use Rattle.std.specs.Str.Parse.{digits_value}
use Rattle.fast_float.specs.Text.{Parts, scan, nearest}
use Rattle.json.specs.Print.{IsNumber}
use Rattle.json.specs.Word.{after_number, after_whole}
use Rattle.serde_json.specs.Data.{Num, unsigned, negative, float}
use Rattle.serde_json.specs.Read.{number_of, number_from, float_of, is_integer}
use Rattle.jp_doc.specs.Json.{whole_of}
use Rattle.jp_doc.specs.Tree.{number_by, text_number}
use Rattle.jp_number.specs.Number.{whole, written}
use Rattle.jp_flat.specs.Digits.{whole_value}
use Rattle.jp_flat.specs.inner.Rows.{is_whole_number}
use Rattle.jp_flat.specs.inner.Plain.{is_unsigned_text, is_minus_text, is_whole_text}
use Rattle.jp_flat.proofs.Good.{is_whole}
use Rattle.jp_flat.proofs.Numbers.{both_back, Digits, digits_are, digits, integer_text, whole_text}
use Rattle.jp_flat.proofs.ScannedTexts.{after_all, integer_digits}

-- ---- a row is told by the tests of an integer alone

finite_row : (t : Bool) (sign : Bool) (p : Parts)
    → is_whole_number (if t then Some (float (nearest binary64 sign p)) else None) ≡ false
finite_row true sign p = refl
finite_row false sign p = refl

row_if : (t : Bool) (n : Num) (sign : Bool) (p : Parts)
    → is_whole_number (if t then Some n else float_of sign p) ≡ true → t ≡ true
row_if true n sign p h = refl
row_if false n sign p h =
    absurd (let none = finite_row (float_is_finite (nearest binary64 sign p)) sign p in cc)

-- ---- digits without a sign

row_unsigned : (ds : List ℕ) → after_all (after_whole ds) ≡ Some []
    → number_of ds ≡ number_from false (scan ds)
    → is_whole_number (number_of ds) ≡ true → is_unsigned_text ds ≡ true
row_unsigned ds grammar is h =
    let scanned =
    and_parts (is_integer (scan ds)) _ (row_if _ _ false (scan ds) (ap is_whole_number (sym is) ∙ h)) in
    let plain = integer_digits ds grammar scanned.0 in
    let t = integer_text false ds (digits_are ds plain) in
    let tested = and_parts (is_integer (digits ds)) _
    (row_if _ _ false (digits ds) (ap is_whole_number (sym t.0) ∙ h)) in
    both_back _ _ plain (ap (λ n. nat_lt n (2 ^ 64)) (sym t.2) ∙ tested.1)

-- ---- digits behind a minus

no_zero_first : (ds : List ℕ) → Digits ds → 0 < digits_value 10 ds → (slice_index ds 0 == 48) ≡ false
no_zero_first [] d some = refl
no_zero_first (c ∷ []) d some = ne_eqb c 48 (λ z. zero_alone c z some)
  where
    zero_alone : (c : ℕ) → c ≡ 48 → 0 < digits_value 10 (c ∷ []) → ⊥
    zero_alone c z some = let none : digits_value 10 (c ∷ []) ≡ 0 = ap (λ x. digits_value 10 (x ∷ [])) z in
        omega (arith, none, some)
no_zero_first (c ∷ e ∷ ds) d some =
    ne_eqb c 48 (λ z. let one = d.lead z in absurd (omega arith))

row_minus : (ds : List ℕ) → after_all (after_whole ds) ≡ Some []
    → number_of (45 ∷ ds) ≡ number_from true (scan ds)
    → is_whole_number (number_of (45 ∷ ds)) ≡ true → is_minus_text ds ≡ true
row_minus ds grammar is h =
    let scanned = and_parts _ _ (row_if _ _ true (scan ds) (ap is_whole_number (sym is) ∙ h)) in
    let integer = and_parts (is_integer (scan ds)) _ scanned.0 in
    let plain = integer_digits ds grammar integer.0 in
    let d = digits_are ds plain in
    let t = integer_text true ds d in
    let tested = and_parts _ _ (row_if _ _ true (digits ds) (ap is_whole_number (sym t.0) ∙ h)) in
    let counted = and_parts (is_integer (digits ds)) _ tested.0 in
    let some : 0 < digits_value 10 ds = ltb-true _ _ (ap (nat_lt 0) (sym t.2) ∙ counted.1) in
    both_back _ _ (both_back _ _ plain (ap not (no_zero_first ds d some)))
    (ap (λ n. nat_le n (2 ^ 63)) (sym t.2) ∙ tested.1)

-- ---- both

read_unsigned : (c : ℕ) (cs : List ℕ) → (c == 45) ≡ false
    → number_of (c ∷ cs) ≡ number_from false (scan (c ∷ cs))
unfolding number_of
read_unsigned c cs e = rw e refl

read_minus : (cs : List ℕ) → number_of (45 ∷ cs) ≡ number_from true (scan cs)
unfolding number_of
read_minus cs = refl

row_at : (b : Bool) (c : ℕ) (cs : List ℕ) → (c == 45) ≡ b
    → after_all (after_whole (cond b cs (c ∷ cs))) ≡ Some [] → is_whole_number (number_of (c ∷ cs)) ≡ true
    → (if b then is_minus_text cs else is_unsigned_text (c ∷ cs)) ≡ true
row_at true c cs e grammar h =
    row_minus cs grammar (read_minus cs)
    (subst (λ x. is_whole_number (number_of (x ∷ cs)) ≡ true) (eqb-true c 45 e) h)
row_at false c cs e grammar h = row_unsigned (c ∷ cs) grammar (read_unsigned c cs e) h

-- a number of the grammar that has a row is a whole text
pub row_is_whole : (s : List ℕ) → IsNumber s → is_whole_number (number_of s) ≡ true → is_whole_text s ≡ true
unfolding after_number
row_is_whole [] grammar h = absurd (cc)
row_is_whole (c ∷ cs) grammar h = row_at (c == 45) c cs refl grammar h

row_of : (n : Num) → is_whole n ≡ true → is_whole_number (Some n) ≡ true
row_of (unsigned n) h = refl
row_of (negative z) h = refl
row_of (float x) h = absurd (cc)

-- a whole text has a row
pub whole_has_row : (s : List ℕ) → is_whole_text s ≡ true → is_whole_number (number_of s) ≡ true
whole_has_row s h = let w = whole_text s h in ap is_whole_number w.read ∙ row_of w.number w.whole

same_truth : (a b : Bool) → (a ≡ true → b ≡ true) → (b ≡ true → a ≡ true) → a ≡ b
same_truth true b p q = sym (p refl)
same_truth false true p q = q refl
same_truth false false p q = refl

-- so the test of a text tells which numbers of a line have a row
pub tells_row : (s : List ℕ) → IsNumber s → is_whole_text s ≡ is_whole_number (number_of s)
tells_row s grammar = same_truth _ _ (whole_has_row s) (row_is_whole s grammar)

-- and which number it is

whole_as_read : (s : List ℕ) (n : Num) → is_whole n ≡ true → number_by s (Some n) ≡ whole (whole_of n)
whole_as_read s (unsigned n) h = refl
whole_as_read s (negative z) h = refl
whole_as_read s (float x) h = absurd (cc)

pub number_is : (s : List ℕ) → is_whole_text s ≡ true → text_number s ≡ whole (whole_value s)
number_is s h =
    let w = whole_text s h in
    ap (number_by s) w.read ∙ whole_as_read s w.number w.whole ∙ ap whole w.is

as_written : (s : List ℕ) (o : Option Num) → is_whole_number o ≡ false → number_by s o ≡ written s
as_written s None h = refl
as_written s (Some (unsigned n)) h = absurd (cc)
as_written s (Some (negative z)) h = absurd (cc)
as_written s (Some (float x)) h = refl

pub other_is : (s : List ℕ) → IsNumber s → is_whole_text s ≡ false → text_number s ≡ written s
other_is s grammar h = as_written s (number_of s) (sym (tells_row s grammar) ∙ h)
