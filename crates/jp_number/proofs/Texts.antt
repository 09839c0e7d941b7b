-- The value of a whole number's own text.
use Rattle.std.proofs.Common.{◌≡◌, ℕ, suc, ◌*◌, ◌^◌, ◌<◌, ◌≤◌, Bool, true, false, List, [], ◌∷◌, ◌++◌}
use Rattle.std.proofs.Common.{ℤ, pos, negsuc, length, append-nil, ne_eqb, refl, sym, ap, ◌∙◌, arith}
use Rattle.std.specs.Prelude.{◌*ℤ◌, decimal, FitsSigned}
use Rattle.std.specs.Fmt.{signed_decimal}
use Rattle.std.specs.Int.{w128}
use Rattle.std.specs.Cmp.{int_cmp_is}
use Rattle.std.specs.Ordering.{int_cmp}
use Rattle.std.specs.Char.{digit_value}
use Rattle.std.specs.Str.Parse.{digits_value, AllDigits}
use Rattle.std.specs.declared.cmp.Ordering.TheVariants.{Equal}
use Rattle.std.proofs.lemmas.Fmt.{decimal_is_IsNumeral_wide}
use Rattle.std.proofs.lemmas.Str.Parse.{digit_from_value}
use Rattle.itoa.proofs.Decimal.{length_wide}
use Rattle.fast_float.specs.Text.{Parts, IsWellFormed, scan, with_sign}
use Rattle.fast_float.proofs.Writing.{scan-text_of}
use Rattle.jp_number.specs.Number.{whole, written, parts, is_negative, top, bottom, order, IsShort}
use Rattle.jp_number.specs.Number.{HasFewDigits}
use Rattle.jp_number.proofs.Order.{by_one}

abbrev plain : List ℕ → Parts
plain ds = record {
  whole = ds;
  point = false;
  fraction = [];
  exponent_negative = false;
  exponent = [];
  len = length (ds ++ []);
}

scanned : (ds : List ℕ) → AllDigits 10 ds → scan ds ≡ plain ds
scanned ds h =
    let formed : IsWellFormed (plain ds) = record {
      whole_digits = h;
      fraction_digits = tt;
      exponent_digits = tt;
      no_point = λ _. refl;
      no_exponent = λ _. refl;
      len_is = refl;
    } in
    ap scan (sym (append-nil ds)) ∙ scan-text_of (plain ds) formed

no_minus : (ds : List ℕ) → AllDigits 10 ds → is_negative ds ≡ false
no_minus [] h = refl
no_minus (d ∷ ds) h =
    let digit : digit_value d < 10 = h.0 in
    let r = digit_from_value d digit in
    ne_eqb d 45 (λ e. omega (arith, r.0, e))

plain_value : (ds : List ℕ) (n : ℕ) → digits_value 10 ds ≡ n → digits_value 10 (ds ++ []) * 1 ≡ n
plain_value ds n e = let f : digits_value 10 (ds ++ []) ≡ digits_value 10 ds =
    ap (digits_value 10) (append-nil ds) in
    omega (arith, e, f)

-- what the digits of such a number are, behind a minus or alone
record IsRead (p : Bool) (n : ℕ) (s : List ℕ) : Type 0 where
  top : top (written s) ≡ with_sign p n
  bottom : bottom (written s) ≡ 1
  short : HasFewDigits (parts s)

few : (ds : List ℕ) → length ds ≤ 39 → HasFewDigits (plain ds)
few ds h = record { all = omega (arith, h); exponent = omega arith }

read_plain : (n : ℕ) → n < 2 ^ 128 → IsRead false n (decimal n)
unfolding top bottom
read_plain n small =
    let d = decimal_is_IsNumeral_wide n (omega (arith, small)) in
    let m = no_minus (decimal n) d.0.1 in
    let s = scanned (decimal n) d.0.1 in
    record {
      top = rw (m, s) (ap pos (plain_value (decimal n) n d.1));
      bottom = rw (m, s) refl;
      short = rw (m, s) (few (decimal n) (length_wide n small));
    }

read_minus : (n : ℕ) → n < 2 ^ 128 → IsRead true n (45 ∷ decimal n)
unfolding top bottom
read_minus n small =
    let d = decimal_is_IsNumeral_wide n (omega (arith, small)) in
    let s = scanned (decimal n) d.0.1 in
    record {
      top = rw s (ap (with_sign true) (plain_value (decimal n) n d.1));
      bottom = rw s refl;
      short = rw s (few (decimal n) (length_wide n small));
    }

whole_by_one : (z : ℤ) → top (whole z) *ℤ pos 1 ≡ z
unfolding top
whole_by_one z = by_one z

by_bottom : (z : ℤ) → z *ℤ pos (bottom (whole z)) ≡ z
unfolding bottom
by_bottom z = by_one z

same_value : (z : ℤ) (s : List ℕ) → top (written s) ≡ z → bottom (written s) ≡ 1
    → order (whole z) (written s) ≡ Equal
unfolding order
same_value z s t b =
    let left : top (whole z) *ℤ pos (bottom (written s)) ≡ z =
    ap (λ k. top (whole z) *ℤ pos k) b ∙ whole_by_one z in
    let right : top (written s) *ℤ pos (bottom (whole z)) ≡ z = ap (λ k. k *ℤ pos (bottom (whole z))) t
    ∙ by_bottom z in
    ap (λ k. int_cmp k (top (written s) *ℤ pos (bottom (whole z)))) left ∙ ap (int_cmp z) right
    ∙ sym (int_cmp_is z z Equal refl)

pub own_value : (z : ℤ) → FitsSigned w128 z → order (whole z) (written (signed_decimal z)) ≡ Equal
own_value (pos n) h = let r = read_plain n (omega (arith, h)) in same_value (pos n) _ r.top r.bottom
own_value (negsuc n) h = let r =
    read_minus (suc n) (omega (arith, h)) in same_value (negsuc n) _ r.top r.bottom

pub own_length : (z : ℤ) → FitsSigned w128 z → IsShort (written (signed_decimal z))
own_length (pos n) h = (read_plain n (omega (arith, h))).short
own_length (negsuc n) h = (read_minus (suc n) (omega (arith, h))).short
