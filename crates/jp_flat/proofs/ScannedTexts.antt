-- The text of a number by the grammar, without its minus, that has neither point nor exponent is digits, of
-- which the first is no zero before others.
use Rattle.std.proofs.Common.{◌≡◌, ℕ, suc, ◌+◌, ◌-◌, ◌<◌, ◌≤◌, Bool, true, false, not, ◌||◌, ◌==◌, cond, List}
use Rattle.std.proofs.Common.{[], ◌∷◌, length, get_or, drop, Option, Some, None, option_and_then, refl, sym}
use Rattle.std.proofs.Common.{ap, ◌∙◌, if◌then◌else◌, subst, arith, ne_eqb, lt-ltb, eqb-true}
use Rattle.std.proofs.lemmas.Bool.{and_parts, leb-true}
use Rattle.std.proofs.lemmas.List.{drop-drop, get_or-drop, length-take}
use Rattle.std.proofs.lemmas.List.Sums.{prefix_len-le-length}
use Rattle.std.specs.Char.{is_ascii_digit}
use Rattle.std.specs.Float.Numeral.{digits_len, digits_end, exponent_start, has_exponent}
use Rattle.std.specs.List.{list_all, slice_range}
use Rattle.std.specs.Prelude.{nat_le, slice_index}
use Rattle.fast_float.specs.Text.{scan}
use Rattle.json.specs.Word.{after_digits, after_sign, after_whole, after_fraction, after_exponent}
use Rattle.serde_json.specs.Read.{is_integer}
use Rattle.jp_flat_nodes.specs.Digits.{are_digits}
use Rattle.jp_flat.proofs.Numbers.{both_back}

-- ---- what the scan of an integer has found

digit_some : (ds : List ℕ) → is_ascii_digit (get_or ds 0 0) ≡ true → 0 < digits_len ds
digit_some [] h = absurd (cc)
digit_some (x ∷ xs) h =
    let e : digits_len (x ∷ xs) ≡ 1 + digits_len xs = ap (λ b. cond b (1 + digits_len xs) 0) h in
    omega (arith, e)

exponent_counts : (ds : List ℕ) (at : ℕ) → has_exponent ds at ≡ true
    → (length (slice_range ds (exponent_start ds at) (digits_end ds (exponent_start ds at))) == 0) ≡ false
exponent_counts ds at h =
    let c = exponent_start ds at in
    let p = and_parts _ (is_ascii_digit (slice_index ds c)) h in
    let same : get_or (drop c ds) 0 0 ≡ get_or ds (c + 0) 0 = get_or-drop c ds 0 0 in
    let zero : c + 0 ≡ c = omega arith in
    let first : is_ascii_digit (get_or (drop c ds) 0 0) ≡ true =
    ap is_ascii_digit (same ∙ ap (λ k. get_or ds k 0) zero) ∙ p.1 in
    let some = digit_some (drop c ds) first in
    let most = prefix_len-le-length is_ascii_digit (drop c ds) in
    ne_eqb _ 0 (λ z. omega (arith, some, most, length-take (digits_end ds c - c) (drop c ds), z))

no_exponent_if : (t : Bool) (ds : List ℕ) (at : ℕ) → has_exponent ds at ≡ t
    → (length (if t then slice_range ds (exponent_start ds at) (digits_end ds (exponent_start ds at)) else [])
    == 0) ≡ true → has_exponent ds at ≡ false
no_exponent_if true ds at e h = absurd (let other = exponent_counts ds at e in cc)
no_exponent_if false ds at e h = e

abbrev Plain : List ℕ → ℕ → Type 0
Plain ds at = ((slice_index ds at == 46) ≡ false) × (has_exponent ds at ≡ false)

plain_if : (point : Bool) (ds : List ℕ) (at later : ℕ) → (slice_index ds at == 46) ≡ point → not point ≡ true
    → (length (if has_exponent ds (if point then later else at)
    then slice_range ds (exponent_start ds (if point then later else at))
    (digits_end ds (exponent_start ds (if point then later else at))) else []) == 0) ≡ true
    → Plain ds at
plain_if true ds at later e n h = absurd (cc)
plain_if false ds at later e n h = (e, no_exponent_if (has_exponent ds at) ds at refl h)

pub plain_scan : (ds : List ℕ) → is_integer (scan ds) ≡ true → Plain ds (digits_len ds)
unfolding scan
plain_scan ds h =
    let e : digits_end ds 0 ≡ digits_len ds = omega arith in
    let p = and_parts _ _ h in
    let q = and_parts _ _ p.0 in
    subst (Plain ds) e (plain_if (slice_index ds (digits_end ds 0) == 46) ds (digits_end ds 0)
    (digits_end ds (digits_end ds 0 + 1)) refl q.1 p.1)

-- ---- so nothing follows the digits

after_some : (t u : List ℕ) → after_digits t ≡ Some u → is_ascii_digit (get_or t 0 0) ≡ true
after_some [] u h = absurd (cc)
after_some (x ∷ xs) u h = go (is_ascii_digit x) refl
  where
    go : (b : Bool) → is_ascii_digit x ≡ b → is_ascii_digit x ≡ true
    go true e = e
    go false e =
        let none : after_digits (x ∷ xs) ≡ None = rw e refl in
        absurd (cc)

first_left : (at : ℕ) (ds r : List ℕ) (x : ℕ) → drop at ds ≡ x ∷ r → slice_index ds at ≡ x
first_left at ds r x e =
    let zero : at ≡ at + 0 = omega arith in
    ap (λ k. get_or ds k 0) zero ∙ sym (get_or-drop at ds 0 0) ∙ ap (λ l. get_or l 0 0) e

rest_left : (at : ℕ) (ds r : List ℕ) (x : ℕ) → drop at ds ≡ x ∷ r → drop (at + 1) ds ≡ r
rest_left at ds r x e = sym (drop-drop 1 at ds) ∙ ap (drop 1) e

-- the digit behind an exponent's sign
sign_if : (s : Bool) (at : ℕ) (ds r u : List ℕ) (y : ℕ) → drop (at + 1) ds ≡ y ∷ r
    → ((y == 45) || (y == 43)) ≡ s → after_digits (cond s r (y ∷ r)) ≡ Some u
    → is_ascii_digit (slice_index ds (if s then at + 2 else at + 1)) ≡ true
sign_if true at ds r u y e is h =
    let two : at + 2 ≡ at + 1 + 1 + 0 = omega arith in
    let rest = rest_left (at + 1) ds r y e in
    ap (λ k. is_ascii_digit (get_or ds k 0)) two
    ∙ ap is_ascii_digit (sym (get_or-drop (at + 1 + 1) ds 0 0) ∙ ap (λ l. get_or l 0 0) rest)
    ∙ after_some r u h
sign_if false at ds r u y e is h =
    ap is_ascii_digit (first_left (at + 1) ds r y e) ∙ after_some (y ∷ r) u h

digit_there : (at : ℕ) (ds r u : List ℕ) → drop (at + 1) ds ≡ r → after_digits (after_sign r) ≡ Some u
    → is_ascii_digit (slice_index ds (exponent_start ds at)) ≡ true
digit_there at ds [] u e h = absurd (cc)
digit_there at ds (y ∷ r) u e h =
    let first : slice_index ds (at + 1) ≡ y = first_left (at + 1) ds r y e in
    ap (λ z. is_ascii_digit (slice_index ds (if ((z == 45) || (z == 43)) then at + 2 else at + 1))) first
    ∙ sign_if ((y == 45) || (y == 43)) at ds r u y e refl h

exponent_there : (e : Bool) (at : ℕ) (ds r : List ℕ) (x : ℕ) → drop at ds ≡ x ∷ r
    → ((x == 101) || (x == 69)) ≡ e → cond e (after_digits (after_sign r)) (Some (x ∷ r)) ≡ Some []
    → has_exponent ds at ≡ true
exponent_there true at ds r x left is h =
    both_back _ _ (ap (λ z. (z == 101) || (z == 69)) (first_left at ds r x left) ∙ is)
    (digit_there at ds r [] (rest_left at ds r x left) h)
exponent_there false at ds r x left is h = absurd (cc)

abbrev pub after_all : Option (List ℕ) → Option (List ℕ)
after_all o = option_and_then after_exponent (option_and_then after_fraction o)

more_left : (at : ℕ) (ds r : List ℕ) (x : ℕ) → drop at ds ≡ x ∷ r → Plain ds at
    → after_all (Some (x ∷ r)) ≡ Some [] → ⊥
more_left at ds r x left p h =
    let no_point : (x == 46) ≡ false = ap (λ z. z == 46) (sym (first_left at ds r x left)) ∙ p.0 in
    let fraction : after_fraction (x ∷ r) ≡ Some (x ∷ r) =
    ap (λ b. cond b (after_digits r) (Some (x ∷ r))) no_point in
    let there = exponent_there ((x == 101) || (x == 69)) at ds r x left refl
    (sym (ap (option_and_then after_exponent) fraction) ∙ h) in
    let none = p.1 in
    cc

nothing_left : (at : ℕ) (ds left : List ℕ) → drop at ds ≡ left → Plain ds at
    → after_all (Some left) ≡ Some [] → left ≡ []
nothing_left at ds [] e p h = refl
nothing_left at ds (x ∷ r) e p h = absurd (more_left at ds r x e p h)

-- ---- digits

all_if : (b : Bool) (x : ℕ) (xs : List ℕ) → is_ascii_digit x ≡ b
    → (drop (digits_len xs) xs ≡ [] → list_all is_ascii_digit xs ≡ true)
    → drop (digits_len (x ∷ xs)) (x ∷ xs) ≡ [] → list_all is_ascii_digit (x ∷ xs) ≡ true
all_if true x xs e others h =
    let one_more : 1 + digits_len xs ≡ suc (digits_len xs) = omega arith in
    let count : digits_len (x ∷ xs) ≡ suc (digits_len xs) =
    ap (λ b. cond b (1 + digits_len xs) 0) e ∙ one_more in
    both_back _ _ e (others (ap (λ k. drop k (x ∷ xs)) (sym count) ∙ h))
all_if false x xs e others h =
    let count : digits_len (x ∷ xs) ≡ 0 = ap (λ b. cond b (1 + digits_len xs) 0) e in
    let all : drop 0 (x ∷ xs) ≡ [] = ap (λ k. drop k (x ∷ xs)) (sym count) ∙ h in
    absurd (cc)

all_digits : (ds : List ℕ) → drop (digits_len ds) ds ≡ [] → list_all is_ascii_digit ds ≡ true
all_digits [] h = refl
all_digits (x ∷ xs) h = all_if (is_ascii_digit x) x xs refl (all_digits xs) h

-- a digit is neither a point nor an `e`
digit_stays : (x : ℕ) (r : List ℕ) → is_ascii_digit x ≡ true → after_all (Some (x ∷ r)) ≡ Some [] → ⊥
digit_stays x r d h =
    let p = and_parts (nat_le 48 x) (nat_le x 57) d in
    let least : 48 ≤ x = leb-true 48 x p.0 in
    let most : x ≤ 57 = leb-true x 57 p.1 in
    let no_point : (x == 46) ≡ false = ne_eqb x 46 (λ e. omega arith) in
    let no_lower : (x == 101) ≡ false = ne_eqb x 101 (λ e. omega arith) in
    let no_upper : (x == 69) ≡ false = ne_eqb x 69 (λ e. omega arith) in
    let fraction : after_fraction (x ∷ r) ≡ Some (x ∷ r) =
    ap (λ b. cond b (after_digits r) (Some (x ∷ r))) no_point in
    let exponent : after_exponent (x ∷ r) ≡ Some (x ∷ r) = rw (no_lower, no_upper) refl in
    let same = sym exponent ∙ sym (ap (option_and_then after_exponent) fraction) ∙ h in
    cc

-- a zero stands alone
zero_if : (b : Bool) (c x : ℕ) (r : List ℕ) → c ≡ 48 → is_ascii_digit x ≡ b
    → Plain (c ∷ x ∷ r) (digits_len (c ∷ x ∷ r)) → after_all (Some (x ∷ r)) ≡ Some [] → ⊥
zero_if true c x r z e p h = digit_stays x r e h
zero_if false c x r z e p h =
    let first : is_ascii_digit c ≡ true = ap is_ascii_digit z in
    let none : digits_len (x ∷ r) ≡ 0 = ap (λ b. cond b (1 + digits_len r) 0) e in
    let one : digits_len (c ∷ x ∷ r) ≡ 1 =
    ap (λ b. cond b (1 + digits_len (x ∷ r)) 0) first ∙ ap (λ k. 1 + k) none in
    more_left 1 (c ∷ x ∷ r) r x refl (subst (Plain (c ∷ x ∷ r)) one p) h

after_zero : (c : ℕ) (cs : List ℕ) → c ≡ 48 → Plain (c ∷ cs) (digits_len (c ∷ cs))
    → after_all (Some cs) ≡ Some [] → are_digits (c ∷ cs) ≡ true
after_zero c [] z p h = subst (λ x. are_digits (x ∷ []) ≡ true) (sym z) refl
after_zero c (x ∷ r) z p h = absurd (zero_if (is_ascii_digit x) c x r z refl p h)

second_true : (a b : Bool) → b ≡ true → (a || b) ≡ true
second_true true b e = refl
second_true false b e = e

digits_if : (t : Bool) (c : ℕ) (cs : List ℕ) → (c == 48) ≡ false
    → after_all (cond t None (Some (drop (digits_len (c ∷ cs)) (c ∷ cs)))) ≡ Some []
    → Plain (c ∷ cs) (digits_len (c ∷ cs)) → are_digits (c ∷ cs) ≡ true
digits_if true c cs z h p = absurd (cc)
digits_if false c cs z h p =
    let none = nothing_left (digits_len (c ∷ cs)) (c ∷ cs) _ refl p h in
    both_back _ _ (lt-ltb 0 (length (c ∷ cs)) (omega arith))
    (both_back _ _ (all_digits (c ∷ cs) none) (second_true _ _ (ap not z)))

whole_if : (z : Bool) (c : ℕ) (cs : List ℕ) → (c == 48) ≡ z
    → after_all (cond z (Some cs) (after_digits (c ∷ cs))) ≡ Some []
    → Plain (c ∷ cs) (digits_len (c ∷ cs)) → are_digits (c ∷ cs) ≡ true
whole_if true c cs z h p = after_zero c cs (eqb-true c 48 z) p h
whole_if false c cs z h p = digits_if (digits_len (c ∷ cs) == 0) c cs z h p

pub integer_digits : (ds : List ℕ) → after_all (after_whole ds) ≡ Some [] → is_integer (scan ds) ≡ true
    → are_digits ds ≡ true
integer_digits [] h e = absurd (cc)
integer_digits (c ∷ cs) h e = whole_if (c == 48) c cs refl h (plain_scan (c ∷ cs) e)
