-- The order of two fractions by their signs and sizes.
use Rattle.std.proofs.Common.{◌≡◌, ℕ, zero, suc, ◌+◌, ◌*◌, ◌^◌, ◌<◌, ◌≤◌, Bool, true, false, List, [], ◌∷◌}
use Rattle.std.proofs.Common.{ℤ, pos, negsuc, neg_ℤ, ◌++◌, length, length-append, refl, sym, ap, ◌∙◌, subst}
use Rattle.std.proofs.Common.{arith}
use Rattle.std.specs.Prelude.{◌*ℤ◌, decimal, int_lt, unsigned_abs, if◌then◌else◌}
use Rattle.std.proofs.lemmas.Bool.{le-ltb}
use Rattle.std.proofs.lemmas.Fmt.{decimal_is_IsNumeral_wide}
use Rattle.std.proofs.lemmas.Int.Digits.{digits_value-lt}
use Rattle.std.proofs.lemmas.Nat.{pow-add}
use Rattle.std.proofs.Math.Nat.{pow-le-pow_right, zero-mul}
use Rattle.std.specs.Ordering.{int_cmp}
use Rattle.std.specs.declared.cmp.Ordering.{Ordering}
use Rattle.std.specs.Str.Parse.{digits_value, AllDigits}
use Rattle.fast_float.specs.Text.{Parts, with_sign, digits_of, tens_up, tens_down}
use Rattle.jp_number.specs.Number.{Number, whole, written, parts, is_negative, top, bottom, order}
use Rattle.jp_number.specs.Number.{HasFewDigits}
use Rattle.jp_number.specs.declared.size.Size.{Size}
use Rattle.jp_number.specs.inner.Sizes.{digits, IsSizeOfParts, IsSizeOf, IsLead, crossed}

pub scaled : (p : Bool) (a b : ℕ) → with_sign p a *ℤ pos b ≡ with_sign p (a * b)
scaled false a b = refl
scaled true zero b = let e : 0 * b ≡ 0 = zero-mul b in ap pos e ∙ sym (ap (λ n. neg_ℤ (pos n)) e)
scaled true (suc a) b = refl

-- the numerator by the other's bottom
one_size : (n m : Number) (p q : Bool) (l r : Size) → IsSizeOf n p l → IsSizeOf m q r
    → top n *ℤ pos (bottom m) ≡ with_sign p (crossed l r)
one_size n m p q l r hl hr =
    let d = digits_value 10 (digits l) in
    let e : 10 ^ (l.up + r.down) ≡ 10 ^ l.up * 10 ^ r.down = pow-add 10 l.up r.down in
    let w : crossed l r ≡ d * (10 ^ l.up * 10 ^ r.down) = ap (λ k. d * k) e in
    let x : d * 10 ^ l.up * 10 ^ r.down ≡ crossed l r = omega (arith, w) in
    ap (λ k. k *ℤ pos (bottom m)) hl.top ∙ ap (λ k. with_sign p (d * 10 ^ l.up) *ℤ pos k) hr.bottom
    ∙ scaled p (d * 10 ^ l.up) (10 ^ r.down) ∙ ap (with_sign p) x

-- the order is that of the signs and sizes
pub order_is : (n m : Number) (p q : Bool) (l r : Size) (o : Ordering) → IsSizeOf n p l → IsSizeOf m q r
    → o ≡ int_cmp (with_sign p (crossed l r)) (with_sign q (crossed r l)) → o ≡ order n m
unfolding order
order_is n m p q l r o hl hr is =
    is ∙ sym (ap (λ k. int_cmp k (top m *ℤ pos (bottom n))) (one_size n m p q l r hl hr)
    ∙ ap (λ k. int_cmp (with_sign p (crossed l r)) k) (one_size m n q p r l hr hl))

of_parts : (s : List ℕ) (p : Bool) (l : Size) → p ≡ is_negative s → IsSizeOfParts (parts s) l
    → IsSizeOf (written s) p l
unfolding top bottom
of_parts s p l e h =
    let t = tens_up (parts s) in
    let d : digits_value 10 (digits l) ≡ digits_of (parts s) = ap (digits_value 10) h.digits in
    let m : digits_value 10 (digits l) * 10 ^ l.up ≡ digits_of (parts s) * 10 ^ t =
    ap (λ k. k * 10 ^ l.up) d ∙ ap (λ k. digits_of (parts s) * 10 ^ k) h.up in
    record {
      top = sym (ap (with_sign p) m ∙ ap (λ b. with_sign b (digits_of (parts s) * 10 ^ t)) e);
      bottom = ap (λ k. 10 ^ k) (sym h.down);
    }

-- what is read of a text makes its value
pub of_text : (s a : List ℕ) (p : Bool) (l : Size) → a ≡ s → p ≡ is_negative a → IsSizeOfParts (parts a) l
    → IsSizeOf (written s) p l
of_text s a p l e f h = subst (λ x. IsSizeOf (written x) p l) e (of_parts a p l f h)

sign_and_size : (z : ℤ) (n : ℕ) → n ≡ unsigned_abs z → z ≡ with_sign (int_lt z (pos 0)) (n * 1)
sign_and_size (pos a) n e =
    let m : a ≡ n * 1 = omega (arith, e) in
    let f : int_lt (pos a) (pos 0) ≡ false = le-ltb a 0 (omega arith) in
    ap pos m ∙ sym (ap (λ b. with_sign b (n * 1)) f)
sign_and_size (negsuc a) n e = let m : suc a ≡ n * 1 = omega (arith, e) in ap (λ k. neg_ℤ (pos k)) m

-- the text of a whole number of 128 bits is digits
pub wide_digits : (n : ℕ) (d : List ℕ) → d ≡ decimal n → n ≤ 2 ^ 127 → AllDigits 10 d
wide_digits n d e small =
    subst (AllDigits 10) (sym e) (decimal_is_IsNumeral_wide n (omega (arith, small))).0.1

-- the digits of a whole number make its value
pub of_whole : (z : ℤ) (n : ℕ) (l : Size) → n ≡ unsigned_abs z → digits l ≡ decimal n → n ≤ 2 ^ 127
    → l.up ≡ 0 → l.down ≡ 0 → IsSizeOf (whole z) (int_lt z (pos 0)) l
unfolding top bottom
of_whole z n l is e small up down =
    let v : digits_value 10 (digits l) ≡ n =
    ap (digits_value 10) e ∙ (decimal_is_IsNumeral_wide n (omega (arith, small))).1 in
    record {
      top = sign_and_size z (digits_value 10 (digits l)) (v ∙ is)
          ∙ sym (ap (λ k. with_sign (int_lt z (pos 0)) (digits_value 10 (digits l) * 10 ^ k)) up);
      bottom = sym (ap (λ k. 10 ^ k) down);
    }

-- ---- the size of a numeral

joined : (w f : List ℕ) → AllDigits 10 w → AllDigits 10 f → AllDigits 10 (w ++ f)
joined [] f h k = k
joined (c ∷ w) f h k = (h.0, joined w f h.1 k)

pub few : (ds : List ℕ) → AllDigits 10 ds → length ds ≤ 9 → digits_value 10 ds < 10 ^ 9
few ds h le =
    let t : 0 < 10 = omega arith in
    let a : 10 ^ length ds ≤ 10 ^ 9 = pow-le-pow_right t le in
    omega (arith, digits_value-lt 10 ds h, a)

pub sized : (p t : Parts) (s : Size) (v : ℕ) → p ≡ t → HasFewDigits t → s.whole.now ≡ p.whole
    → s.fraction.now ≡ p.fraction
    → AllDigits 10 p.whole → AllDigits 10 p.fraction → AllDigits 10 p.exponent → IsLead (digits s) s.zeros
    → v ≡ digits_value 10 p.exponent → s.up ≤ v → s.down ≤ length s.fraction.now + v
    → s.up ≡ tens_up p → s.down ≡ tens_down p → IsSizeOfParts t s
sized p t s v e short w f dw df dx lead is up down isup isdown =
    let sh : HasFewDigits p = subst HasFewDigits (sym e) short in
    let d : digits s ≡ p.whole ++ p.fraction = ap (λ x. x ++ s.fraction.now) w ∙ ap (λ x. p.whole ++ x) f in
    let small : digits_value 10 p.exponent < 10 ^ 9 = few p.exponent dx sh.exponent in
    let n : length (digits s) ≡ length p.whole + length p.fraction =
    ap length d ∙ length-append p.whole p.fraction in
    let m : length s.fraction.now ≡ length p.fraction = ap length f in
    let total = sh.all in
    subst (λ q. IsSizeOfParts q s) e record {
      is_size = record {
        all = subst (AllDigits 10) (sym d) (joined p.whole p.fraction dw df);
        lead = lead;
        few = omega arith;
        up = omega arith;
        down = omega arith;
      };
      digits = d;
      up = isup;
      down = isdown;
    }

pub up_of : (p : Parts) (b : Bool) (v u : ℕ) → b ≡ p.exponent_negative → v ≡ digits_value 10 p.exponent
    → u ≡ (if b then 0 else v) → u ≡ tens_up p
up_of p b v u e f is =
    is ∙ ap (λ k. if k then 0 else v) e ∙ ap (λ k. if p.exponent_negative then 0 else k) f

pub down_of : (p : Parts) (b : Bool) (n v u : ℕ) → b ≡ p.exponent_negative → v ≡ digits_value 10 p.exponent
    → n ≡ length p.fraction → u ≡ (if b then v else 0) → n + u ≡ tens_down p
down_of p b n v u e f m is =
    ap (λ k. k + u) m ∙ ap (λ k. length p.fraction + k)
    (is ∙ ap (λ k. if k then v else 0) e ∙ ap (λ k. if p.exponent_negative then k else 0) f)
