-- The text of an index: an integer of the grammar, its value, and that it opens no bracket.
use Rattle.std.proofs.Common.{◌≡◌, ℕ, zero, suc, ◌+◌, ◌-◌, ◌*◌, ◌<◌, ◌^◌, ◌==◌, Bool, true, false, IsTrue}
use Rattle.std.proofs.Common.{List, [], ◌∷◌, refl, ap, sym, ◌∙◌, subst, arith, decimal, get_or}
use Rattle.std.specs.Prelude.{pos}
use Rattle.std.specs.Char.{digit_value}
use Rattle.std.specs.Str.Parse.{AllDigits, digits_value, digits_value_after}
use Rattle.std.proofs.lemmas.Bool.Decides.{nat_tests}
use Rattle.std.proofs.lemmas.Fmt.{decimal_is_IsNumeral_wide, decimal_digit, first_decimal}
use Rattle.jp_types.specs.Numbers.{whole_number, digits_from, magnitude}
use borrow.Author.Tests.{eqb-true}
use Rattle.jp_tree.specs.Characters.{is_digit, is_positive_digit, is_quote}
use Rattle.jp_tree.specs.Parts.{Each}
use Rattle.jp_tree.specs.Numbers.{IsInt, zero_int, positive_int}
use Rattle.jp_tokens.specs.Depth.{outside, is_opening, is_closing, step}
use Rattle.jp_path.proofs.Passing.{Passes, passes_none, passes_one, passes_on}

not_small : digit_value 45 < 10 → ⊥
not_small h = absurd (omega arith)

not_minus_by : (c : ℕ) (b : Bool) → (c == 45) ≡ b → digit_value c < 10 → (c == 45) ≡ false
not_minus_by c true e h = let is : c ≡ 45 =
    eqb-true c 45 e in absurd (not_small (subst (λ n. digit_value n < 10) is h))
not_minus_by c false e h = e

digit_is : (c : ℕ) → digit_value c < 10 → c - 48 ≡ digit_value c
digit_is c h = grind (arith, nat_tests)

digits_are : (n : ℕ) (ds : List ℕ) → AllDigits 10 ds → digits_from n ds ≡ digits_value_after 10 n ds
digits_are n [] h = refl
digits_are n (c ∷ cs) h = ap (λ d. digits_from (n * 10 + d) cs) (digit_is c h.0)
    ∙ digits_are (n * 10 + digit_value c) cs h.1

numeral_magnitude : (ds : List ℕ) → AllDigits 10 ds → magnitude ds ≡ digits_value 10 ds
numeral_magnitude [] h = refl
numeral_magnitude (c ∷ cs) h = let e : (c == 45) ≡ false = not_minus_by c (c == 45) refl h.0 in rw e
    (digits_are 0 (c ∷ cs) h)

numeral_is_whole : (ds : List ℕ) → AllDigits 10 ds → whole_number ds ≡ pos (digits_value 10 ds)
numeral_is_whole [] h = refl
numeral_is_whole (c ∷ cs) h = let e : (c == 45) ≡ false = not_minus_by c (c == 45) refl h.0 in rw e
    (ap pos (digits_are 0 (c ∷ cs) h))

pub decimal_is_whole : (n : ℕ) → n < 2 ^ 32 → whole_number (decimal n) ≡ pos n
decimal_is_whole n h =
    let d = decimal_is_IsNumeral_wide n (omega arith) in
    numeral_is_whole (decimal n) d.0.1 ∙ ap pos d.1

pub decimal_magnitude : (n : ℕ) → n < 2 ^ 32 → magnitude (decimal n) ≡ n
decimal_magnitude n h =
    let d = decimal_is_IsNumeral_wide n (omega arith) in
    numeral_magnitude (decimal n) d.0.1 ∙ d.1

digit_of : (c : ℕ) → digit_value c < 10 → IsTrue (is_digit c)
digit_of c h = grind (arith, nat_tests)

positive_digit_of : (c : ℕ) → digit_value c < 10 → 48 < c → IsTrue (is_positive_digit c)
positive_digit_of c h k = grind (arith, nat_tests)

each_digit : (ds : List ℕ) → AllDigits 10 ds → Each is_digit ds
each_digit [] h = tt
each_digit (c ∷ cs) h = (digit_of c h.0, each_digit cs h.1)

int_from : (ds : List ℕ) → AllDigits 10 ds → 48 < get_or ds 0 0 → IsInt ds
int_from [] h k = absurd (omega arith)
int_from (c ∷ cs) h k = positive_int c cs (positive_digit_of c h.0 k) (each_digit cs h.1)

-- no sign and no leading zero
pub decimal_is_int : (n : ℕ) → n < 2 ^ 32 → IsInt (decimal n)
decimal_is_int zero h = subst IsInt (sym (decimal_digit 0 (omega arith))) zero_int
decimal_is_int (suc n) h =
    int_from (decimal (suc n)) (decimal_is_IsNumeral_wide (suc n) (omega arith)).0.1
    (first_decimal (suc n) (omega arith) (omega arith))

no_quote : (c : ℕ) → digit_value c < 10 → is_quote c ≡ false
no_quote c h = grind (arith, nat_tests)

no_opening : (c : ℕ) → digit_value c < 10 → is_opening c ≡ false
no_opening c h = grind (arith, nat_tests)

no_closing : (c : ℕ) → digit_value c < 10 → is_closing c ≡ false
no_closing c h = grind (arith, nat_tests)

digits_stay : (ds : List ℕ) → AllDigits 10 ds → Passes (outside 1) ds (outside 1)
digits_stay [] h = passes_none (outside 1) (omega arith)
digits_stay (c ∷ cs) h =
    let e : step (outside 1) c ≡ outside 1 = rw (no_quote c h.0, no_opening c h.0, no_closing c h.0) refl in
    passes_on (outside 1) (outside 1) (outside 1) (c ∷ []) cs
    (passes_one (outside 1) (outside 1) c e (omega arith) (omega arith)) (digits_stay cs h.1)

pub decimal_stays : (n : ℕ) → n < 2 ^ 32 → Passes (outside 1) (decimal n) (outside 1)
decimal_stays n h = digits_stay (decimal n) (decimal_is_IsNumeral_wide n (omega arith)).0.1
