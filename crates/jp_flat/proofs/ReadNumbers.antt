-- What the kit's `parse_u64` tells of the text of a number.
use Rattle.std.proofs.Common.{◌≡◌, ℕ, ◌<◌, ◌^◌, Bool, true, false, not, ◌||◌, ◌==◌, List, [], ◌∷◌, length}
use Rattle.std.proofs.Common.{Option, Some, None, Result, Ok, Err, refl, sym, ap, ◌∙◌, subst, arith, cond}
use Rattle.std.proofs.Common.{option_and_then, eqb-true, eq-eqb, ne_eqb, le-leb, lt-ltb}
use Rattle.std.proofs.lemmas.Bool.{leb-true}
use Rattle.std.specs.Char.{is_ascii_digit}
use Rattle.std.specs.Int.{IsInRange}
use Rattle.std.specs.List.{list_all}
use Rattle.std.specs.Prelude.{slice_index, ℤ, pos, neg_ℤ, drop, MatchOption, if◌then◌else◌}
use Rattle.jp_flat.specs.Digits.{whole_value}
use Rattle.std.specs.Str.Parse.{AllDigits, digits_value, without_leading_plus, ParsesUnsigned}
use Rattle.std.proofs.lemmas.Str.Parse.{digit_from_value}
use Rattle.json.specs.Print.{IsNumber}
use Rattle.json.specs.Word.{after_number, after_whole, after_fraction, after_exponent}
use Rattle.jp_flat.specs.inner.Plain.{is_unsigned_text, is_minus_text, is_whole_text, IsLed}
use Rattle.jp_flat_nodes.specs.Digits.{are_digits}
use Rattle.jp_flat.specs.inner.Plain.{is_fit_number}
use Rattle.jp_flat.proofs.Fit.{fit_number}
use Rattle.jp_flat.proofs.Numbers.{both, both_back, parsed, unsigned_is, minus_is}

-- ---- the text of a number has no plus before it, and no zero before other digits

-- what follows the sign is read to the end
abbrev IsRead : List ℕ → Type 0
IsRead t = option_and_then after_exponent (option_and_then after_fraction (after_whole t)) ≡ Some []

no_plus : (t : List ℕ) → IsRead t → slice_index t 0 ≡ 43 → ⊥
no_plus [] h e = absurd (cc)
no_plus (c ∷ cs) h e = go (subst (λ x. IsRead (x ∷ cs)) e h)
  where
    go : IsRead (43 ∷ cs) → ⊥
    go h = absurd (cc)

digit_is_no : (d k : ℕ) → is_ascii_digit d ≡ true → (48 < k → 57 < k) → (k ≡ 48 → ⊥) → (d == k) ≡ false
digit_is_no d k h high other =
    let b = both _ _ h in
    let r : IsInRange 48 57 d = (leb-true 48 d b.0, leb-true d 57 b.1) in
    ne_eqb d k (λ e. omega (arith, r.0, r.1, e, high, other))

zero_before : (d : ℕ) (ds : List ℕ) → is_ascii_digit d ≡ true
    → option_and_then after_exponent (option_and_then after_fraction (Some (d ∷ ds))) ≡ Some (d ∷ ds)
zero_before d ds h =
    let dot = digit_is_no d 46 h (λ less. omega arith) (λ e. omega arith) in
    let lower = digit_is_no d 101 h (λ less. omega arith) (λ e. omega arith) in
    let upper = digit_is_no d 69 h (λ less. omega arith) (λ e. omega arith) in
    rw (dot, lower, upper) refl

never_empty : (d : ℕ) (ds : List ℕ) → ◌≡◌ {A = Option (List ℕ)} (Some (d ∷ ds)) (Some []) → ⊥
never_empty d ds e = absurd (cc)

led_if : (z : Bool) (c d : ℕ) (ds : List ℕ) → (c == 48) ≡ z → IsRead (c ∷ d ∷ ds)
    → list_all is_ascii_digit (c ∷ d ∷ ds) ≡ true → not z ≡ true
led_if false c d ds e h all = refl
led_if true c d ds e h all =
    let a = both (is_ascii_digit c) _ all in
    let b = both (is_ascii_digit d) _ a.1 in
    let read : IsRead (48 ∷ d ∷ ds) = subst (λ x. IsRead (x ∷ d ∷ ds)) (eqb-true c 48 e) h in
    absurd (never_empty d ds (sym (zero_before d ds b.0) ∙ read))

second_true : (a b : Bool) → b ≡ true → (a || b) ≡ true
second_true true b e = refl
second_true false b e = e

all_led : (t : List ℕ) → IsRead t → list_all is_ascii_digit t ≡ true → are_digits t ≡ true
all_led [] h all = absurd (cc)
all_led (c ∷ []) h all = both_back true _ refl (both_back _ _ all refl)
all_led (c ∷ d ∷ ds) h all =
    both_back _ _ (lt-ltb 0 (length (c ∷ d ∷ ds)) (omega arith))
    (both_back _ _ all (second_true _ _ (led_if (c == 48) c d ds refl h all)))

is_led : (t : List ℕ) → IsRead t → IsLed t
is_led t h = (no_plus t h, all_led t h)

read_behind : (s : List ℕ) → IsNumber s → (slice_index s 0 ≡ 45 → ⊥) → IsRead s
unfolding after_number
read_behind [] h other = absurd (cc)
read_behind (c ∷ cs) h other = subst (λ b. IsRead (cond b cs (c ∷ cs))) (ne_eqb c 45 other) h

pub unsigned_led : (s : List ℕ) → is_fit_number s ≡ true → (slice_index s 0 ≡ 45 → ⊥) → IsLed s
unsigned_led s h other = is_led s (read_behind s (fit_number s h).0 other)

none_first : (s : List ℕ) → length s ≡ 0 → slice_index s 0 ≡ 45 → ⊥
none_first [] e first = absurd (cc)
none_first (c ∷ cs) e first = omega (arith, e)

pub empty_led : (s : List ℕ) → is_fit_number s ≡ true → length s ≡ 0 → IsLed s
empty_led s h e = unsigned_led s h (none_first s e)

minus_read : (cs : List ℕ) → IsNumber (45 ∷ cs) → IsRead cs
unfolding after_number
minus_read cs h = h

pub minus_led : (s : List ℕ) → is_fit_number s ≡ true → slice_index s 0 ≡ 45 → IsLed (drop 1 s)
minus_led [] h e = absurd (cc)
minus_led (c ∷ cs) h e =
    is_led cs (minus_read cs (fit_number (45 ∷ cs) (subst (λ x. is_fit_number (x ∷ cs) ≡ true) e h)).0)

-- what is read behind a minus tells of the whole text
pub minus_told : (o : Option ℤ) (t s : List ℕ) → t ≡ drop 1 s → slice_index s 0 ≡ 45
    → MatchOption o (is_minus_text t ≡ false)
    (λ z. (is_minus_text t ≡ true) × (z ≡ neg_ℤ (pos (digits_value 10 t))))
    → MatchOption o (is_whole_text s ≡ false) (λ z. (is_whole_text s ≡ true) × (z ≡ whole_value s))
minus_told o t s e first h = go o h
  where
    minus : (slice_index s 0 == 45) ≡ true
    minus = eq-eqb (slice_index s 0) 45 first

    is_text : is_whole_text s ≡ is_minus_text t
    is_text = ap (λ b. if b then is_minus_text (drop 1 s) else is_unsigned_text s) minus
        ∙ ap is_minus_text (sym e)

    value : whole_value s ≡ neg_ℤ (pos (digits_value 10 t))
    value = ap (λ b. if b then neg_ℤ (pos (digits_value 10 (drop 1 s))) else pos (digits_value 10 s)) minus
        ∙ ap (λ l. neg_ℤ (pos (digits_value 10 l))) (sym e)

    go : (o : Option ℤ) → MatchOption o (is_minus_text t ≡ false)
        (λ z. (is_minus_text t ≡ true) × (z ≡ neg_ℤ (pos (digits_value 10 t))))
        → MatchOption o (is_whole_text s ≡ false) (λ z. (is_whole_text s ≡ true) × (z ≡ whole_value s))
    go None h = is_text ∙ h
    go (Some z) h = (is_text ∙ h.0, h.1 ∙ sym value)

-- ---- what is read

all_digits : (ds : List ℕ) → AllDigits 10 ds → list_all is_ascii_digit ds ≡ true
all_digits [] h = refl
all_digits (d ∷ ds) h =
    let r : IsInRange 48 57 d = digit_from_value d h.0 in
    both_back _ _ (both_back _ _ (le-leb 48 d r.0) (le-leb d 57 r.1)) (all_digits ds h.1)

without_plus : (ds : List ℕ) → (slice_index ds 0 ≡ 43 → ⊥) → without_leading_plus ds ≡ ds
without_plus ds other = rw (ne_eqb (slice_index ds 0) 43 other) refl

pub read_ok : {E : Type 0} (ds : List ℕ) (r : Result ℕ E) (n : ℕ) → IsLed ds → ParsesUnsigned 64 10 ds r
    → r ≡ Ok n → (is_unsigned_text ds ≡ true) × (n ≡ digits_value 10 ds)
read_ok ds (Ok m) n led p e =
    let same = without_plus ds led.0 in
    let all = subst (AllDigits 10) same p.0.0.1 in
    let fits = subst (λ t. digits_value 10 t < 2 ^ 64) same p.0.1 in
    let is : m ≡ n = cc in (
      both_back _ _ (led.1 (all_digits ds all)) (lt-ltb (digits_value 10 ds) (2 ^ 64) fits),
      sym is ∙ p.1 ∙ ap (digits_value 10) same,
    )
read_ok ds (Err x) n led p e = absurd (cc)

no_unsigned : {E : Type 0} (b : Bool) (ds : List ℕ) (x : E) → is_unsigned_text ds ≡ b
    → ParsesUnsigned 64 10 ds (Err x) → b ≡ false
no_unsigned false ds x e p = refl
no_unsigned true ds x e p =
    let u = unsigned_is ds e in
    absurd (parsed ds (Err x) u.plain p u.fits)

pub read_err : {E : Type 0} (ds : List ℕ) (r : Result ℕ E) (x : E) → ParsesUnsigned 64 10 ds r → r ≡ Err x
    → is_unsigned_text ds ≡ false
read_err ds (Ok m) x p e = absurd (cc)
read_err ds (Err y) x p e = no_unsigned (is_unsigned_text ds) ds y refl p

no_minus_if : (b : Bool) (ds : List ℕ) → is_minus_text ds ≡ b → is_unsigned_text ds ≡ false → b ≡ false
no_minus_if false ds e h = refl
no_minus_if true ds e h =
    let m = minus_is ds e in
    let fits : digits_value 10 ds < 2 ^ 64 = omega (arith, m.fits) in
    let yes = both_back _ _ m.plain (lt-ltb (digits_value 10 ds) (2 ^ 64) fits) in
    absurd (cc)

pub no_minus : (ds : List ℕ) → is_unsigned_text ds ≡ false → is_minus_text ds ≡ false
no_minus ds h = no_minus_if (is_minus_text ds) ds refl h
