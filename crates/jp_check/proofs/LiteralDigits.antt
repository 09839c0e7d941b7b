-- A number literal with no fraction and no exponent is digits, perhaps behind a minus, so one of at most 38
-- digits can be read.
use Rattle.std.proofs.Common.{◌≡◌, ℕ, ◌+◌, ◌-◌, ◌*◌, ◌<◌, ◌≤◌, ◌^◌, ◌==◌, ◌||◌, Bool, true, false, cond}
use Rattle.std.proofs.Common.{IsTrue, [], ◌∷◌, ◌++◌, length, refl, ap, sym, ◌∙◌, subst, arith}
use Rattle.std.proofs.Common.{append-nil, inl, inr, ◌⊎◌}
use Rattle.std.specs.Prelude.{count_by, nat_lt, List, if◌then◌else◌}
use Rattle.std.specs.Str.{chars, IsUtf8}
use Rattle.std.proofs.lemmas.Str.{encodes-chars}
use Rattle.jp_number.specs.Number.{written, IsShort, is_short}
use Rattle.jp_number.proofs.Limits.{short_by_test}
use Rattle.std.specs.List.{list_any}
use Rattle.std.proofs.Math.Nat.{pow-succ', pow-le-pow_right, mul-le-mul_right, mul_assoc}
use Rattle.std.proofs.lemmas.List.Sums.{sum_by-cons}
use Rattle.std.proofs.lemmas.Bool.{and_parts, both_ways, not-true, leb-true, lt-ltb}
use Rattle.std.proofs.lemmas.Bool.Decides.{nat_tests}
use Rattle.jp_tree.specs.Tree.{Text}
use Rattle.jp_tree.specs.Characters.{is_digit, is_positive_digit}
use Rattle.jp_tree.specs.Parts.{Each, IsOptional, absent, present}
use Rattle.jp_tree.specs.Numbers as is
use Rattle.jp_types.specs.Numbers.{Written, literal_number, position, digits_from, unsigned_digits}
use Rattle.jp_types.specs.Numbers.{magnitude, is_fraction, is_in_range, is_in_range_in, is_short_in}
use Rattle.jp_types.specs.Numbers.{is_whole, max_digits}
use Rattle.jp_number.specs.declared.numbers.Numbers.TheVariants.{Decimals}
use Rattle.jp_check.specs.inner.Making.{is_readable}

-- how a number literal is written; of an index nothing is said
abbrev pub IsPlain : Written → Type 0
IsPlain (literal_number t) = (is_fraction (literal_number t) ≡ true) ⊎ Each is_digit (unsigned_digits t)
IsPlain (position t) = Unit {0}

-- digits behind perhaps a minus
digit_of : (c : ℕ) → IsTrue (is_positive_digit c) → IsTrue (is_digit c)
digit_of c h = grind (arith, nat_tests)

no_minus : (c : ℕ) → IsTrue (is_positive_digit c) → (c == 45) ≡ false
no_minus c h = grind (arith, nat_tests)

int_digits : (t : Text) → is.IsInt t → Each is_digit (unsigned_digits t)
int_digits w is.zero_int = (refl, tt)
int_digits w (is.positive_int c t p h) = rw (no_minus c p) (digit_of c p, h)
int_digits w (is.negative_int c t p h) = (digit_of c p, h)

whole_digits : (t : Text) → is.IsWhole t → Each is_digit (unsigned_digits t)
whole_digits w (is.whole_int t h) = int_digits t h
whole_digits w is.minus_zero = (refl, tt)

-- a fraction and an exponent have a mark
abbrev is_mark : ℕ → Bool
is_mark c = (c == 46) || (c == 101) || (c == 69)

or_true : (a b : Bool) → b ≡ true → (a || b) ≡ true
or_true true b h = refl
or_true false b h = h

exponent_mark : (c : ℕ) → IsTrue (is.is_exponent_mark c) → is_mark c ≡ true
exponent_mark c h = grind (arith, nat_tests)

marked : (s : Text) (c : ℕ) (t : Text) → is_mark c ≡ true → list_any is_mark (s ++ c ∷ t) ≡ true
marked [] c t h = rw h refl
marked (d ∷ s) c t h = or_true (is_mark d) _ (marked s c t h)

fraction_marked : (r s t : Text) → is.IsFraction s → list_any is_mark (r ++ (s ++ t)) ≡ true
fraction_marked r w t (is.fraction s h) = marked r 46 (s ++ t) refl

exponent_marked : (r t : Text) → is.IsExponent t → list_any is_mark (r ++ t) ≡ true
exponent_marked r w (is.exponent c s t m h d) = marked r c (s ++ t) (exponent_mark c m)

parts_plain : (r s t : Text) → is.IsWhole r → IsOptional is.IsFraction s → IsOptional is.IsExponent t
    → IsPlain (literal_number (r ++ (s ++ t)))
parts_plain r s t w (present x f) e = inl (fraction_marked r s t f)
parts_plain r s t w absent (present x e) = inl (exponent_marked r t e)
parts_plain r s t w absent absent =
    inr (subst (λ u. Each is_digit (unsigned_digits u)) (sym (append-nil r)) (whole_digits r w))

pub number_plain : (t : Text) → is.IsNumber t → IsPlain (literal_number t)
number_plain w (is.number r s t h f e) = parts_plain r s t h f e

-- so many digits are a number below that power of ten
digit_most : (c : ℕ) → IsTrue (is_digit c) → c - 48 ≤ 9
digit_most c h = grind (arith, nat_tests)

one_more : (d m n p : ℕ) → d < (m + 1) * p → m + 1 ≤ (n + 1) * 10 → d < (n + 1) * (10 * p)
one_more d m n p h k =
    let most : (m + 1) * p ≤ (n + 1) * (10 * p) =
    subst (λ x. (m + 1) * p ≤ x) (mul_assoc (n + 1) 10 p) (mul-le-mul_right p k) in
    omega (arith, h, most)

digits_below : (n : ℕ) (t : Text) → Each is_digit t → digits_from n t < (n + 1) * 10 ^ length t
digits_below n [] h = omega arith
digits_below n (c ∷ t) h =
    rw (pow-succ' 10 (length t)) (one_more _ (n * 10 + (c - 48)) n (10 ^ length t)
    (digits_below (n * 10 + (c - 48)) t h.1) (omega (arith, digit_most c h.0)))

-- each of them counts
counted_more : (c : ℕ) (t : Text) → count_by is_digit (c ∷ t) ≡ cond (is_digit c) 1 0 + count_by is_digit t
counted_more c t = sum_by-cons (λ x. cond (is_digit x) 1 0) c t

digits_counted : (t : Text) → Each is_digit t → length t ≤ count_by is_digit t
digits_counted [] h = omega arith
digits_counted (c ∷ t) h =
    let more : count_by is_digit (c ∷ t) ≡ 1 + count_by is_digit t = counted_more c t
    ∙ ap (λ b. cond b 1 0 + count_by is_digit t) h.0 in
    omega (arith, more, digits_counted t h.1)

unsigned_counted : (t : Text) → Each is_digit (unsigned_digits t)
    → length (unsigned_digits t) ≤ count_by is_digit t
unsigned_counted [] h = omega arith
unsigned_counted (c ∷ t) h = by_sign (c == 45) h
  where
    by_sign : (b : Bool) → Each is_digit (cond b t (c ∷ t)) → length (cond b t (c ∷ t))
        ≤ count_by is_digit (c ∷ t)
    by_sign true k = omega (arith, counted_more c t, digits_counted t k)
    by_sign false k = digits_counted (c ∷ t) k

few_readable : (t : Text) → Each is_digit (unsigned_digits t) → count_by is_digit t ≤ 38
    → magnitude t < 10 ^ 38
few_readable t h k =
    let below : magnitude t < 1 * 10 ^ length (unsigned_digits t) =
    digits_below 0 (unsigned_digits t) h in
    let few : length (unsigned_digits t) ≤ 38 = omega (arith, k, unsigned_counted t h) in
    let most : 10 ^ length (unsigned_digits t) ≤ 10 ^ 38 =
    pow-le-pow_right {n = 10} (omega arith) {i = length (unsigned_digits t)} {j = 38} few in
    omega (arith, below, most)

-- a whole literal
whole_below : (t : Text) → IsPlain (literal_number t) → is_whole t ≡ true → magnitude t < 10 ^ 38
whole_below t (inl h) w = absurd (both_ways _ (not-true _ (and_parts _ _ w).0) h)
whole_below t (inr h) w = few_readable t h (leb-true _ max_digits (and_parts _ _ w).1)

-- a literal can be read where it is whole, and where it is within the limits
literal_readable : (t : Text) (b : Bool) → is_whole t ≡ b → IsPlain (literal_number t)
    → (b ≡ false → is_short_in Decimals t ≡ true) → is_readable (literal_number t) ≡ true
unfolding is_readable
literal_readable t true e p s = rw e (lt-ltb (magnitude t) (10 ^ 38) (whole_below t p e))
literal_readable t false e p s = rw e (s refl)

pub plain_readable : (n : Written) → IsPlain n → is_fraction n ≡ false → is_in_range n ≡ true
    → is_readable n ≡ true
unfolding is_readable
plain_readable (literal_number t) p f r =
    literal_readable t true (rw (f, r) refl) p (λ e. absurd cc)
plain_readable (position t) p f r = r

pub short_readable : (n : Written) → IsPlain n → is_in_range_in Decimals n ≡ true → is_readable n ≡ true
unfolding is_readable
short_readable (literal_number t) p r = literal_readable t (is_whole t) refl p (λ e. r)
short_readable (position t) p r = r

-- a literal that can be read and is not whole is within the limits, as its bytes
pub written_short : (bs : List ℕ) → IsUtf8 bs → is_readable (literal_number (chars bs)) ≡ true
    → is_whole (chars bs) ≡ false → IsShort (written bs)
unfolding is_readable
written_short bs u r w =
    let t = chars bs in
    let can : Bool → Bool = λ b. if b then nat_lt (magnitude t) (10 ^ 38) else is_short_in Decimals t in
    let short = subst (λ b. can b ≡ true) w r in
    (short_by_test (written bs)).0 (ap (λ s. is_short (written s)) (sym (encodes-chars bs u)) ∙ short)
