-- The texts of whole numbers of 64 bits.
use Rattle.std.proofs.Common.{◌≡◌, ℕ, zero, suc, ◌+◌, ◌*◌, ◌^◌, ◌<◌, ◌≤◌, Bool, true, false, not, ◌&&◌}
use Rattle.std.proofs.Common.{◌||◌, ◌==◌}
use Rattle.std.proofs.Common.{List, [], ◌∷◌, ◌++◌, length, get_or, pos, Some, refl, sym, ap, ◌∙◌}
use Rattle.std.proofs.Common.{append-nil, lt-ltb, le-leb, ne_eqb, if◌then◌else◌, subst, arith, Result, Ok}
use Rattle.std.proofs.Common.{Err, is_ok, eqb-true, eq-eqb, true≢false}
use Rattle.std.proofs.lemmas.Bool.{ltb-true, leb-true, le-ltb, lt-leb}
use Rattle.std.proofs.lemmas.Int.Digits.{digits_value-lt}
use Rattle.std.proofs.lemmas.Str.{digit_value_digit}
use Rattle.std.proofs.Math.Nat.{pow-le-pow_right}
use Rattle.std.specs.Prelude.{nat_lt, nat_le, int_lt, slice_index, neg_ℤ, unsigned_abs, FitsSigned}
use Rattle.std.specs.Char.{digit_value, is_ascii_digit}
use Rattle.std.specs.Fmt.{sign_text, signed_decimal}
use Rattle.std.specs.Int.{IsInRange}
use Rattle.std.specs.List.{list_all}
use Rattle.std.proofs.lemmas.Int.{fits_signed_from_abs}
use Rattle.std.specs.Int.{w128}
use Rattle.std.specs.Result.{OkIff}
use Rattle.std.specs.Str.Parse.{AllDigits, IsNumeral, digits_value, digits_value_after, without_leading_plus}
use Rattle.std.specs.Str.Parse.{ParsesUnsigned}
use Rattle.std.proofs.lemmas.Str.Parse.{digit_from_value, numerals_by_value, tells_digits}
use Rattle.fast_float.specs.Text.{Parts, text_of, digits_of, IsWellFormed, with_sign}
use Rattle.fast_float.proofs.Writing.{scan-text_of}
use Rattle.serde_json.specs.Data.{Num, unsigned, negative}
use Rattle.serde_json.specs.Read.{number_of, number_from, is_integer}
use Rattle.jp_doc.specs.Json.{whole_of}
use Rattle.std.specs.Prelude.{decimal}
use Rattle.std.proofs.lemmas.Fmt.{decimal-digits_value}
use Rattle.jp_flat.specs.Digits.{whole_value}
use Rattle.jp_flat.specs.inner.Plain.{is_unsigned_text, is_minus_text, is_whole_text}
use Rattle.jp_flat_nodes.specs.Digits.{are_digits}
use Rattle.jp_flat.proofs.Good.{is_whole}

pub both : (a b : Bool) → (a && b) ≡ true → (a ≡ true) × (b ≡ true)
both true b h = (refl, h)
both false b h = absurd (cc)

pub both_back : (a b : Bool) → a ≡ true → b ≡ true → (a && b) ≡ true
both_back a b h k = rw (h, k) refl

digit : (c : ℕ) → is_ascii_digit c ≡ true → digit_value c < 10
digit c h =
    let b = both _ _ h in
    let r : IsInRange 48 57 c = (leb-true 48 c b.0, leb-true c 57 b.1) in
    omega (arith, digit_value_digit c r, r.0, r.1)

nonzero : (c : ℕ) → is_ascii_digit c ≡ true → (c ≡ 48 → ⊥) → 0 < digit_value c
nonzero c h other =
    let b = both _ _ h in
    let r : IsInRange 48 57 c = (leb-true 48 c b.0, leb-true c 57 b.1) in
    omega (arith, digit_value_digit c r, r.0, r.1, other)

all_digits : (ds : List ℕ) → list_all is_ascii_digit ds ≡ true → AllDigits 10 ds
all_digits [] h = tt
all_digits (d ∷ ds) h =
    let b = both (is_ascii_digit d) (list_all is_ascii_digit ds) h in
    (digit d b.0, all_digits ds b.1)

no_less : (n : ℕ) (ds : List ℕ) → n ≤ digits_value_after 10 n ds
no_less n [] = omega arith
no_less n (d ∷ ds) =
    let later : n * 10 + digit_value d ≤ digits_value_after 10 (n * 10 + digit_value d) ds = no_less (n * 10
    + digit_value d) ds in
    omega (arith, later)

pub record Digits (ds : List ℕ) : Type 0 where
  pub some : 0 < length ds
  pub all : AllDigits 10 ds
  pub lead : get_or ds 0 0 ≡ 48 → length ds ≡ 1

not_zero : (b : Bool) → not b ≡ true → b ≡ false
not_zero true h = absurd (cc)
not_zero false h = refl

one_if : (t : Bool) (ds : List ℕ) → nat_le (length ds) 1 ≡ t → 0 < length ds
    → (t || not (slice_index ds 0 == 48)) ≡ true → get_or ds 0 0 ≡ 48 → length ds ≡ 1
one_if true ds e some h z = let few : length ds ≤ 1 = leb-true (length ds) 1 e in omega arith
one_if false ds e some h z = absurd (true≢false (sym (eq-eqb (slice_index ds 0) 48 z) ∙ not_zero _ h))

one_zero : (ds : List ℕ) → 0 < length ds → (nat_le (length ds) 1 || not (slice_index ds 0 == 48)) ≡ true
    → get_or ds 0 0 ≡ 48 → length ds ≡ 1
one_zero ds some h = one_if (nat_le (length ds) 1) ds refl some h

pub digits_are : (ds : List ℕ) → are_digits ds ≡ true → Digits ds
digits_are ds h =
    let a = both (nat_lt 0 (length ds)) _ h in
    let d = both (list_all is_ascii_digit ds) _ a.1 in
    record {
      some = ltb-true 0 (length ds) a.0;
      all = all_digits ds d.0;
      lead = one_zero ds (ltb-true 0 (length ds) a.0) d.1;
    }

-- digits that are so few have a value below this
pub below : (ds : List ℕ) (most : ℕ) → are_digits ds ≡ true → length ds ≤ most
    → digits_value 10 ds < 10 ^ most
below ds most h few =
    let ten : 0 < 10 = omega arith in
    let more : 10 ^ length ds ≤ 10 ^ most = pow-le-pow_right ten few in
    omega (arith, digits_value-lt 10 ds (digits_are ds h).all, more)

abbrev pub digits : List ℕ → Parts
digits ds = record {
  whole = ds;
  point = false;
  fraction = [];
  exponent_negative = false;
  exponent = [];
  len = length (ds ++ []);
}

no_minus : (ds rest : List ℕ) → AllDigits 10 ds → 0 < length ds → get_or (ds ++ rest) 0 0 ≡ 45 → ⊥
no_minus [] rest h some e = omega arith
no_minus (d ∷ ds) rest h some e = let digit : digit_value d < 10 = h.0 in let is : d ≡ 45 = e in grind arith

number_of-text_of : (sign : Bool) (p : Parts) → IsWellFormed p → 0 < length p.whole
    → number_of (sign_text sign ++ text_of p) ≡ number_from sign p
unfolding number_of
number_of-text_of true p h some = ap (number_from true) (scan-text_of p h)
number_of-text_of false p h some = rw (ne_eqb (get_or (text_of p) 0 0) 45 (no_minus p.whole _ h.whole_digits
    some)) (ap (number_from false) (scan-text_of p h))

pub integer_text : (sign : Bool) (ds : List ℕ) → Digits ds
    → (number_of (sign_text sign ++ ds) ≡ number_from sign (digits ds)) × (is_integer (digits ds) ≡ true)
    × (digits_of (digits ds) ≡ digits_value 10 ds)
integer_text sign ds h =
    let some = h.some in
    let formed : IsWellFormed (digits ds) = record {
      whole_digits = h.all;
      fraction_digits = tt;
      exponent_digits = tt;
      no_point = λ _. refl;
      no_exponent = λ _. refl;
      len_is = refl;
    } in (
      ap (λ s. number_of (sign_text sign ++ s)) (sym (append-nil ds))
          ∙ number_of-text_of sign (digits ds) formed some,
      rw (lt-ltb _ _ some) refl,
      rw append-nil refl,
    )

unsigned_number : (ds : List ℕ) → Digits ds → digits_value 10 ds < 2 ^ 64
    → number_of ds ≡ Some (unsigned (digits_value 10 ds))
unsigned_number ds h fits =
    let t = integer_text false ds h in
    t.0 ∙ rw (t.1, t.2) (rw (lt-ltb _ _ fits) refl)

negative_number : (ds : List ℕ) → Digits ds → 0 < digits_value 10 ds → digits_value 10 ds ≤ 2 ^ 63
    → number_of (45 ∷ ds) ≡ Some (negative (with_sign true (digits_value 10 ds)))
negative_number ds h some fits =
    let t = integer_text true ds h in
    t.0 ∙ rw (t.1, t.2) (rw (lt-ltb _ _ some, le-leb _ _ fits) refl)

-- the number that a text is
pub record Whole (s : List ℕ) : Type 0 where
  pub number : Num
  pub read : number_of s ≡ Some number
  pub whole : is_whole number ≡ true
  pub is : whole_of number ≡ whole_value s

below_zero : (n : ℕ) → 0 < n → int_lt (neg_ℤ (pos n)) (pos 0) ≡ true
below_zero zero h = absurd (omega arith)
below_zero (suc n) h = refl

first_counts : (ds : List ℕ) → are_digits ds ≡ true → not (slice_index ds 0 == 48) ≡ true
    → 0 < digits_value 10 ds
first_counts [] h k = absurd (cc)
first_counts (d ∷ ds) h k =
    let a = both (nat_lt 0 (length (d ∷ ds))) _ h in
    let e = both (list_all is_ascii_digit (d ∷ ds)) _ a.1 in
    let c = both (is_ascii_digit d) _ e.0 in
    let other : d ≡ 48 → ⊥ = λ e. true≢false (sym (eq-eqb d 48 e) ∙ not_zero (d == 48) k) in
    omega (arith, nonzero d c.0 other, no_less (0 * 10 + digit_value d) ds)

-- what the digits of a number without a sign are, and those of one behind a minus
pub record Unsigned (ds : List ℕ) : Type 0 where
  pub plain : are_digits ds ≡ true
  pub digits : Digits ds
  pub fits : digits_value 10 ds < 2 ^ 64

pub unsigned_is : (ds : List ℕ) → is_unsigned_text ds ≡ true → Unsigned ds
unsigned_is ds h =
    let b = both (are_digits ds) _ h in
    record { plain = b.0; digits = digits_are ds b.0; fits = ltb-true _ _ b.1 }

pub record Minus (ds : List ℕ) : Type 0 where
  pub plain : are_digits ds ≡ true
  pub digits : Digits ds
  pub some : 0 < digits_value 10 ds
  pub fits : digits_value 10 ds ≤ 2 ^ 63

pub minus_is : (ds : List ℕ) → is_minus_text ds ≡ true → Minus ds
minus_is ds h =
    let a = both (are_digits ds && not (slice_index ds 0 == 48)) _ h in
    let b = both (are_digits ds) _ a.0 in
    record {
      plain = b.0;
      digits = digits_are ds b.0;
      some = first_counts ds b.0 b.1;
      fits = leb-true _ _ a.1;
    }

negative_text : (ds : List ℕ) → is_minus_text ds ≡ true → Whole (45 ∷ ds)
negative_text ds h =
    let m = minus_is ds h in
    record {
      number = negative (with_sign true (digits_value 10 ds));
      read = negative_number ds m.digits m.some m.fits;
      whole = below_zero (digits_value 10 ds) m.some;
      is = refl;
    }

whole_if : (b : Bool) (c : ℕ) (cs : List ℕ) → (c == 45) ≡ b
    → (if b then is_minus_text cs else is_unsigned_text (c ∷ cs)) ≡ true → Whole (c ∷ cs)
whole_if true c cs e h = subst (λ x. Whole (x ∷ cs)) (sym (eqb-true c 45 e)) (negative_text cs h)
whole_if false c cs e h =
    let u = unsigned_is (c ∷ cs) h in
    record {
      number = unsigned (digits_value 10 (c ∷ cs));
      read = unsigned_number (c ∷ cs) u.digits u.fits;
      whole = refl;
      is = rw e refl;
    }

pub whole_text : (s : List ℕ) → is_whole_text s ≡ true → Whole s
whole_text [] h = absurd (cc)
whole_text (c ∷ cs) h = whole_if (c == 45) c cs refl h

-- ---- what the kit's `parse_u64` gives

no_plus : (c : ℕ) (cs : List ℕ) → are_digits (c ∷ cs) ≡ true → (c == 43) ≡ false
no_plus c cs h =
    let d = digits_are (c ∷ cs) h in
    let digit : digit_value c < 10 = d.all.0 in
    let r : IsInRange 48 57 c = digit_from_value c digit in
    ne_eqb c 43 (λ e. omega (arith, r.0, e))

without_plus : (ds : List ℕ) → are_digits ds ≡ true → without_leading_plus ds ≡ ds
without_plus [] h = absurd (cc)
without_plus (c ∷ cs) h = rw (no_plus c cs h) refl

pub parsed : {E : Type 0} (ds : List ℕ) (r : Result ℕ E) → are_digits ds ≡ true → ParsesUnsigned 64 10 ds r
    → OkIff r (digits_value 10 ds < 2 ^ 64) (digits_value 10 ds)
parsed ds (Ok n) h p =
    let e = without_plus ds h in
    (subst (λ s. digits_value 10 s < 2 ^ 64) e p.0.1, p.1 ∙ ap (digits_value 10) e)
parsed ds (Err x) h p = λ fits.
    let d = digits_are ds h in
    let e = without_plus ds h in
    p (subst (λ s. IsNumeral 10 s × (digits_value 10 s < 2 ^ 64)) (sym e) ((d.some, d.all), fits))

-- what such an answer tells of the digits
pub told_fits : {E : Type 0} (ds : List ℕ) (r : Result ℕ E)
    → OkIff r (digits_value 10 ds < 2 ^ 64) (digits_value 10 ds)
    → is_ok r ≡ nat_lt (digits_value 10 ds) (2 ^ 64)
told_fits ds (Ok n) p = sym (lt-ltb (digits_value 10 ds) (2 ^ 64) p.0)
told_fits ds (Err e) p = sym (le-ltb (digits_value 10 ds) (2 ^ 64) (omega (arith, p)))

pub not_read : {E : Type 0} (ds : List ℕ) (r : Result ℕ E) (e : E) → r ≡ Err e
    → OkIff r (digits_value 10 ds < 2 ^ 64) (digits_value 10 ds) → digits_value 10 ds < 2 ^ 64 → ⊥
not_read ds r e is p = subst (λ q. OkIff q (digits_value 10 ds < 2 ^ 64) (digits_value 10 ds)) is p

pub too_many : {E : Type 0} (ds : List ℕ) (r : Result ℕ E) (e : E) → r ≡ Err e
    → OkIff r (digits_value 10 ds < 2 ^ 64) (digits_value 10 ds)
    → false ≡ nat_le (digits_value 10 ds) (2 ^ 63)
too_many ds r e is p =
    let more : ¬ (digits_value 10 ds < 2 ^ 64) = not_read ds r e is p in
    sym (lt-leb (digits_value 10 ds) (2 ^ 63) (omega (arith, more)))

size_of_minus : (n : ℕ) → unsigned_abs (neg_ℤ (pos n)) ≡ n
size_of_minus zero = refl
size_of_minus (suc n) = refl

fits_if : (b : Bool) (c : ℕ) (cs : List ℕ) → (c == 45) ≡ b
    → (if b then is_minus_text cs else is_unsigned_text (c ∷ cs)) ≡ true
    → FitsSigned w128 (whole_value (c ∷ cs))
fits_if true c cs e h =
    let m = minus_is cs h in
    rw e (fits_signed_from_abs w128 _ (omega (arith, size_of_minus (digits_value 10 cs), m.fits)))
fits_if false c cs e h =
    let u = unsigned_is (c ∷ cs) h in
    rw e (fits_signed_from_abs w128 _ (omega (arith, u.fits)))

-- the number has room in 128 bits
pub fits_wide : (s : List ℕ) → is_whole_text s ≡ true → FitsSigned w128 (whole_value s)
fits_wide [] h = absurd (cc)
fits_wide (c ∷ cs) h = fits_if (c == 45) c cs refl h

-- ---- the text of such a number is what is written of it

written_plain : (ds : List ℕ) → Digits ds → digits_value 10 ds < 2 ^ 64 → decimal (digits_value 10 ds) ≡ ds
written_plain ds h fits = decimal-digits_value (numerals_by_value _ tells_digits) ds h.all h.some h.lead fits

minus_before : (n : ℕ) (ds : List ℕ) → 0 < n → decimal n ≡ ds
    → signed_decimal (neg_ℤ (pos n)) ≡ 45 ∷ ds
minus_before zero ds h e = absurd (omega arith)
minus_before (suc n) ds h e = ap (λ l. 45 ∷ l) e

written_minus : (ds : List ℕ) → is_minus_text ds ≡ true
    → signed_decimal (neg_ℤ (pos (digits_value 10 ds))) ≡ 45 ∷ ds
written_minus ds h =
    let m = minus_is ds h in
    minus_before (digits_value 10 ds) ds m.some (written_plain ds m.digits (omega (arith, m.fits)))

written_if : (b : Bool) (c : ℕ) (cs : List ℕ) → (c == 45) ≡ b
    → (if b then is_minus_text cs else is_unsigned_text (c ∷ cs)) ≡ true
    → signed_decimal (whole_value (c ∷ cs)) ≡ c ∷ cs
written_if true c cs e h =
    subst (λ x. signed_decimal (whole_value (x ∷ cs)) ≡ x ∷ cs)
    (sym (eqb-true c 45 e))
    (written_minus cs h)
written_if false c cs e h =
    let u = unsigned_is (c ∷ cs) h in
    rw e (written_plain (c ∷ cs) u.digits u.fits)

pub written : (s : List ℕ) → is_whole_text s ≡ true
    → signed_decimal (whole_value s) ≡ s
written [] h = absurd (cc)
written (c ∷ cs) h = written_if (c == 45) c cs refl h
