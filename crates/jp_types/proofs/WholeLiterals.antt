-- A whole literal is within the limits of all numbers: it has at most 38 digits, and no fraction and no
-- exponent.
use Rattle.std.proofs.Common.{◌≡◌, ℕ, suc, ◌+◌, ◌-◌, ◌<◌, ◌≤◌, ◌==◌}
use Rattle.std.proofs.Common.{◌||◌, Bool, true, false, cond, List, [], ◌∷◌}
use Rattle.std.proofs.Common.{◌++◌, length, get_or, drop, refl, sym, ap, ◌∙◌, subst, arith, inl, inr, ◌⊎◌}
use Rattle.std.specs.Prelude.{count_by, encode_utf8, encode_utf8_all, if◌then◌else◌}
use Rattle.std.specs.Char.{is_ascii_digit}
use Rattle.std.specs.List.{list_any, prefix_len}
use Rattle.std.specs.Float.Numeral.{scan_numeral, digits_end, has_exponent}
use Rattle.std.proofs.lemmas.Bool.{and_parts, not-true, leb-true, cases_lt, eqb-true, and_left}
use Rattle.std.proofs.lemmas.Bool.Decides.{nat_tests}
use Rattle.std.proofs.lemmas.List.{length-append, length-take}
use Rattle.std.proofs.lemmas.List.Sums.{sum_by-cons}
use Rattle.std.proofs.lemmas.Str.{encode_ascii, char_from_byte, length-encode, len_utf8_bounds}
use Rattle.jp_number.specs.Number.{written, IsShort, HasFewDigits, is_negative}
use Rattle.jp_number.specs.declared.numbers.Numbers.TheVariants.{Decimals}
use Rattle.jp_number.proofs.Limits.{short_by_test}
use Rattle.jp_tree.specs.Tree.{Text}
use Rattle.jp_types.specs.Numbers.{is_digit, is_short_in, is_whole, max_digits}

abbrev is_mark : ℕ → Bool
is_mark c = (c == 46) || (c == 101) || (c == 69)

abbrev digits_in : Text → ℕ
digits_in t = count_by is_digit t

-- the bytes begin with at most so many digits, and none of the marks of a fraction and of an exponent stands
-- behind those
abbrev Begins : List ℕ → ℕ → Type 0
Begins bs n = let a = prefix_len is_ascii_digit bs in (a ≤ n) × (is_mark (get_or bs a 0) ≡ false)

begins_digit : (c : ℕ) (bs : List ℕ) (t : Text) → is_digit c ≡ true → Begins bs (digits_in t)
    → Begins (c ∷ bs) (digits_in (c ∷ t))
begins_digit c bs t e h =
    let more : digits_in (c ∷ t) ≡ 1 + digits_in t = sum_by-cons (λ x. cond (is_digit x) 1 0) c t
    ∙ ap (λ b. cond b 1 0 + digits_in t) e in
    let next : 1 + prefix_len is_ascii_digit bs ≡ suc (prefix_len is_ascii_digit bs) = omega arith in
    let one : prefix_len is_ascii_digit (c ∷ bs) ≡ suc (prefix_len is_ascii_digit bs) =
    ap (λ b. cond b (1 + prefix_len is_ascii_digit bs) 0) e ∙ next in
    subst (λ a. (a ≤ digits_in (c ∷ t)) × (is_mark (get_or (c ∷ bs) a 0) ≡ false)) (sym one)
    (omega (arith, more, h.0), h.1)

-- what begins with no digit and no mark
begins_other : (c : ℕ) (bs : List ℕ) (n : ℕ) → is_digit c ≡ false → is_mark c ≡ false → Begins (c ∷ bs) n
begins_other c bs n e m =
    let none : prefix_len is_ascii_digit (c ∷ bs) ≡ 0 =
    ap (λ b. cond b (1 + prefix_len is_ascii_digit bs) 0) e in
    subst (λ a. (a ≤ n) × (is_mark (get_or (c ∷ bs) a 0) ≡ false)) (sym none) (omega arith, m)

begins_ascii : (b : Bool) (c : ℕ) (bs : List ℕ) (t : Text) → is_digit c ≡ b → is_mark c ≡ false
    → Begins bs (digits_in t) → Begins (c ∷ bs) (digits_in (c ∷ t))
begins_ascii true c bs t e m h = begins_digit c bs t e h
begins_ascii false c bs t e m h = begins_other c bs (digits_in (c ∷ t)) e m

begins_high : (bs : List ℕ) (n : ℕ) → 128 ≤ get_or bs 0 0 → Begins bs n
begins_high [] n h = absurd (omega arith)
begins_high (b ∷ bs) n h = begins_other b bs n (grind (arith, nat_tests)) (grind (arith, nat_tests))

-- a text whose first byte is ASCII begins with that character
first_char : (c : ℕ) (rest : List ℕ) → get_or (encode_utf8 c ++ rest) 0 0 < 128
    → c ≡ get_or (encode_utf8 c ++ rest) 0 0
first_char c rest low =
    let some : 0 < length (encode_utf8 c ++ rest) =
    omega (arith, length-append (encode_utf8 c) rest, length-encode c, (len_utf8_bounds c).0) in
    char_from_byte (encode_utf8 c ++ rest) rest c refl low some

high_if : (c : ℕ) (rest : List ℕ) → 128 ≤ c → (get_or (encode_utf8 c ++ rest) 0 0 < 128)
    ⊎ (128 ≤ get_or (encode_utf8 c ++ rest) 0 0) → 128 ≤ get_or (encode_utf8 c ++ rest) 0 0
high_if c rest h (inl low) = absurd (omega (arith, h, low, first_char c rest low))
high_if c rest h (inr high) = high

high_byte : (c : ℕ) (rest : List ℕ) → 128 ≤ c → 128 ≤ get_or (encode_utf8 c ++ rest) 0 0
high_byte c rest h = high_if c rest h (cases_lt _ 128)

begins_char : (c : ℕ) (t : Text) → is_mark c ≡ false → Begins (encode_utf8_all t) (digits_in t)
    → (c < 128) ⊎ (128 ≤ c) → Begins (encode_utf8_all (c ∷ t)) (digits_in (c ∷ t))
begins_char c t m h (inl low) =
    rw (encode_ascii c low) (begins_ascii (is_digit c) c (encode_utf8_all t) t refl m h)
begins_char c t m h (inr high) =
    begins_high (encode_utf8_all (c ∷ t)) (digits_in (c ∷ t)) (high_byte c (encode_utf8_all t) high)

neither : (a b : Bool) → (a || b) ≡ false → (a ≡ false) × (b ≡ false)
neither false b h = (refl, h)
neither true b h = absurd cc

begins : (t : Text) → list_any is_mark t ≡ false → Begins (encode_utf8_all t) (digits_in t)
begins [] m = (omega arith, refl)
begins (c ∷ t) m =
    let no = neither (is_mark c) _ m in
    begins_char c t no.0 (begins t no.1) (cases_lt c 128)

-- so those are all the digits of the number
none_if : (b : Bool) (xs : List ℕ) → b ≡ false → (if b then xs else []) ≡ []
none_if b xs e = ap (λ b. if b then xs else []) e

unmarked : (c : ℕ) → is_mark c ≡ false → ((c == 46) ≡ false) × (((c == 101) || (c == 69)) ≡ false)
unmarked c m = grind (arith, nat_tests)

scan_short : (bs : List ℕ) (n : ℕ) → n ≤ max_digits → Begins bs n → HasFewDigits (scan_numeral bs)
unfolding scan_numeral
scan_short bs n few h =
    let a = digits_end bs 0 in
    let same : a ≡ prefix_len is_ascii_digit bs = omega arith in
    let no = unmarked (get_or bs a 0) (ap (λ i. is_mark (get_or bs i 0)) same ∙ h.1) in
    let point = get_or bs a 0 == 46 in
    let fraction : length (scan_numeral bs).fraction ≡ 0 = ap length (none_if point _ no.0) in
    let plain : has_exponent bs (if point then digits_end bs (a + 1) else a) ≡ false =
    ap (λ b. has_exponent bs (if b then digits_end bs (a + 1) else a)) no.0 ∙ and_left _ _ no.1 in
    let exponent : length (scan_numeral bs).exponent ≡ 0 = ap length (none_if _ _ plain) in
    let whole : length (scan_numeral bs).whole ≤ a = omega (arith, length-take (a - 0) bs) in
    record {
      all = omega (arith, whole, same, fraction, exponent, few, h.0);
      exponent = omega (arith, exponent);
    }

short_by_sign : (b : Bool) (c : ℕ) (t : Text) → is_negative (encode_utf8_all (c ∷ t)) ≡ b
    → list_any is_mark (c ∷ t) ≡ false → digits_in (c ∷ t) ≤ max_digits
    → HasFewDigits (scan_numeral (if b then drop 1 (encode_utf8_all (c ∷ t)) else encode_utf8_all (c ∷ t)))
short_by_sign true c t e m few =
    let first : get_or (encode_utf8_all (c ∷ t)) 0 0 ≡ 45 = eqb-true _ 45 e in
    let sign : c ≡ 45 = first_char c (encode_utf8_all t) (omega (arith, first)) ∙ first in
    let rest : drop 1 (encode_utf8_all (c ∷ t)) ≡ encode_utf8_all t =
    ap (λ d. drop 1 (encode_utf8 d ++ encode_utf8_all t)) sign
    ∙ ap (λ s. drop 1 (s ++ encode_utf8_all t)) (encode_ascii 45 (omega arith)) in
    let fewer : digits_in (c ∷ t) ≡ cond (is_digit c) 1 0 + digits_in t =
    sum_by-cons (λ x. cond (is_digit x) 1 0) c t in
    subst (λ bs. HasFewDigits (scan_numeral bs)) (sym rest)
    (scan_short (encode_utf8_all t) (digits_in t) (omega (arith, few, fewer))
    (begins t (neither (is_mark c) _ m).1))
short_by_sign false c t e m few =
    scan_short (encode_utf8_all (c ∷ t)) (digits_in (c ∷ t)) few (begins (c ∷ t) m)

short : (t : Text) → list_any is_mark t ≡ false → digits_in t ≤ max_digits
    → IsShort (written (encode_utf8_all t))
short [] m few = scan_short [] 0 (omega arith) (begins [] refl)
short (c ∷ t) m few = short_by_sign (is_negative (encode_utf8_all (c ∷ t))) c t refl m few

pub whole_short : (t : Text) → is_whole t ≡ true → is_short_in Decimals t ≡ true
whole_short t w =
    let parts = and_parts _ _ w in
    (short_by_test (written (encode_utf8_all t))).1
    (short t (not-true _ parts.0) (leb-true _ max_digits parts.1))
