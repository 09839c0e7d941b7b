-- Numbers as they are written, read digit by digit.
use Rattle.std.proofs.Common.{◌≡◌, ℕ, ◌+◌, ◌-◌, ◌*◌, ◌<◌, ◌≤◌, ◌==◌, Bool, true, false, cond, List, []}
use Rattle.std.proofs.Common.{◌∷◌, length, get_or, drop, refl, ap, sym, ◌∙◌, arith}
use Rattle.std.proofs.lemmas.List.{at_drop_more}
use borrow.Author.Tests.{eqb-true}
use Rattle.jp_types.specs.Numbers.{digits_from, magnitude}

-- reading on makes a number no smaller
pub digits_grow : (n : ℕ) (cs : List ℕ) → n ≤ digits_from n cs
digits_grow n [] = omega arith
digits_grow n (c ∷ cs) = let more : n * 10 + (c - 48) ≤ digits_from (n * 10 + (c - 48)) cs =
    digits_grow (n * 10 + (c - 48)) cs in omega arith

sign_first : (c : ℕ) (cs : List ℕ) (b : Bool) → (c == 45) ≡ b → digits_from 0 (cond b cs (c ∷ cs))
    ≡ digits_from 0 (c ∷ cs)
sign_first c cs true e = let is : c ≡ 45 = eqb-true c 45 e in rw is refl
sign_first c cs false e = refl

-- the minus counts as no digit
pub magnitude_is : (cs : List ℕ) → digits_from 0 cs ≡ magnitude cs
magnitude_is [] = refl
magnitude_is (c ∷ cs) = sym (sign_first c cs (c == 45) refl)

-- one more digit
pub digit_read : (cs : List ℕ) (n k c : ℕ) → (k < length cs) × (c ≡ get_or cs k c)
    → digits_from n (drop k cs) ≡ digits_from (n * 10 + (c - 48)) (drop (k + 1) cs)
digit_read cs n k c h = at_drop_more (digits_from n) cs k c h.0
    ∙ ap (λ x. digits_from (n * 10 + (x - 48)) (drop (k + 1) cs)) (sym h.1)
