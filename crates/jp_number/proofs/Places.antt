-- Places, and then digits, decide.
use Rattle.std.proofs.Common.{◌≡◌, ℕ, zero, suc, ◌+◌, ◌-◌, ◌*◌, ◌^◌, ◌<◌, ◌≤◌, refl, sym, ap, ◌∙◌, arith}
use Rattle.std.proofs.Common.{List, length, ◌==◌, eq-eqb, ne_eqb}
use Rattle.std.proofs.lemmas.Cmp.{ranked}
use Rattle.std.specs.Cmp.{nat_cmp_is}
use Rattle.std.specs.Ordering.{nat_cmp, MatchOrdering}
use Rattle.std.specs.declared.cmp.Ordering.{Ordering}
use Rattle.std.specs.declared.cmp.Ordering.TheVariants.{Less, Equal, Greater}
use Rattle.std.specs.Str.Parse.{AllDigits, digits_value}
use Rattle.jp_number.specs.inner.Front.{digit, front}
use Rattle.jp_number.specs.inner.Sizes.{IsLead}
use Rattle.jp_number.proofs.Fronts.{front_suc, front_all, front_past, most, least}
use Rattle.std.proofs.Common.{◌⊎◌, inl, inr}
use Rattle.std.proofs.lemmas.Bool.{cases_lt}
use Rattle.std.proofs.lemmas.Nat.{pow-add}
use Rattle.std.proofs.Math.Nat.{pow-le-pow_right, mul-lt-mul_of_pos_right, lt_of_mul-lt-mul_right}
use Rattle.std.proofs.Math.Nat.{eq_of_mul-eq-mul_right, one-le-pow, mul-le-mul_right}

pub ten_some : (k : ℕ) → 0 < 10 ^ k
ten_some k = let t : 0 < 10 = omega arith in one-le-pow k 10 t

-- the higher place wins: a has at most m digits, b at least suc n
pub place_decides : (a b m n e f : ℕ) → a < 10 ^ m → 10 ^ n ≤ b → m + e ≤ n + f → a * 10 ^ e < b * 10 ^ f
place_decides a b m n e f below above le =
    let some : 0 < 10 ^ e = ten_some e in
    let x : a * 10 ^ e < 10 ^ m * 10 ^ e = mul-lt-mul_of_pos_right below some in
    let y : 10 ^ (m + e) ≡ 10 ^ m * 10 ^ e = pow-add 10 m e in
    let t : 0 < 10 = omega arith in
    let z : 10 ^ (m + e) ≤ 10 ^ (n + f) = pow-le-pow_right t le in
    let v : 10 ^ (n + f) ≡ 10 ^ n * 10 ^ f = pow-add 10 n f in
    let w : 10 ^ n * 10 ^ f ≤ b * 10 ^ f = mul-le-mul_right (10 ^ f) above in
    omega arith

-- at the same place, both numbers are their padded digits times one power of ten
padded : (a m n e p : ℕ) → n + e ≡ p → n ≤ m → a * 10 ^ e * 10 ^ m ≡ a * 10 ^ (m - n) * 10 ^ p
padded a m n e p is le =
    let x : 10 ^ (e + m) ≡ 10 ^ e * 10 ^ m = pow-add 10 e m in
    let y : 10 ^ ((m - n) + p) ≡ 10 ^ (m - n) * 10 ^ p = pow-add 10 (m - n) p in
    let z : e + m ≡ (m - n) + p = omega arith in
    let w : 10 ^ e * 10 ^ m ≡ 10 ^ (m - n) * 10 ^ p = sym x ∙ ap (λ k. 10 ^ k) z ∙ y in
    let v : a * (10 ^ e * 10 ^ m) ≡ a * (10 ^ (m - n) * 10 ^ p) = ap (λ k. a * k) w in
    omega (arith, v)

pub digits_decide : (a b m n k e f : ℕ) → n + e ≡ k + f → n ≤ m → k ≤ m → a * 10 ^ (m - n) < b * 10 ^ (m - k)
    → a * 10 ^ e < b * 10 ^ f
digits_decide a b m n k e f same le le' lt =
    let x = padded a m n e (n + e) refl le in
    let y = padded b m k f (n + e) (sym same) le' in
    let some : 0 < 10 ^ (n + e) = ten_some (n + e) in
    let z : a * 10 ^ (m - n) * 10 ^ (n + e) < b * 10 ^ (m - k) * 10 ^ (n + e) =
    mul-lt-mul_of_pos_right lt some in
    let w : a * 10 ^ e * 10 ^ m < b * 10 ^ f * 10 ^ m = omega (arith, x, y, z) in
    lt_of_mul-lt-mul_right (10 ^ m) w

pub digits_equal : (a b m n k e f : ℕ) → n + e ≡ k + f → n ≤ m → k ≤ m → a * 10 ^ (m - n) ≡ b * 10 ^ (m - k)
    → a * 10 ^ e ≡ b * 10 ^ f
digits_equal a b m n k e f same le le' is =
    let x = padded a m n e (n + e) refl le in
    let y = padded b m k f (n + e) (sym same) le' in
    let z : a * 10 ^ (m - n) * 10 ^ (n + e) ≡ b * 10 ^ (m - k) * 10 ^ (n + e) =
    ap (λ t. t * 10 ^ (n + e)) is in
    eq_of_mul-eq-mul_right (10 ^ m) (ten_some m) (a * 10 ^ e) (b * 10 ^ f) (x ∙ z ∙ sym y)

-- ---- lists of digits, the first of them zeros

pub value_none : (ds : List ℕ) (z : ℕ) → IsLead ds z → length ds - z ≡ 0 → digits_value 10 ds ≡ 0
value_none ds z h nil =
    let le = h.within in
    let e : z ≡ length ds = omega arith in
    sym (front_all ds) ∙ ap (front ds) (sym e) ∙ h.none

pub value_below : (ds : List ℕ) (z : ℕ) → AllDigits 10 ds → IsLead ds z
    → digits_value 10 ds < 10 ^ (length ds - z)
value_below ds z h lead =
    let le = lead.within in
    let e : z + (length ds - z) ≡ length ds = omega arith in
    let f : front ds (z + (length ds - z)) ≡ digits_value 10 ds = ap (front ds) e ∙ front_all ds in
    omega (arith, most ds z (length ds - z) h lead.none, f)

pub value_above : (ds : List ℕ) (z : ℕ) → IsLead ds z → 0 < length ds - z
    → 10 ^ (length ds - z - 1) ≤ digits_value 10 ds
value_above ds z lead more =
    let le = lead.within in
    let e : suc z + (length ds - z - 1) ≡ length ds = omega arith in
    let f : front ds (suc z + (length ds - z - 1)) ≡ digits_value 10 ds = ap (front ds) e ∙ front_all ds in
    let d : 0 < digit ds z = lead.some (omega arith) in
    let some : 0 < front ds (suc z) = omega (arith, front_suc ds z, d) in
    omega (arith, least ds (suc z) (length ds - z - 1) some, f)

pub some_value : (ds : List ℕ) (z e : ℕ) → IsLead ds z → 0 < length ds - z → 0 < digits_value 10 ds * 10 ^ e
some_value ds z e lead more =
    let a : 10 ^ (length ds - z - 1) ≤ digits_value 10 ds = value_above ds z lead more in
    let b : 0 < 10 ^ (length ds - z - 1) = ten_some (length ds - z - 1) in
    let c : 0 < digits_value 10 ds = omega arith in
    let d : 0 * 10 ^ e < digits_value 10 ds * 10 ^ e = mul-lt-mul_of_pos_right c (ten_some e) in
    omega arith

pub no_value : (ds : List ℕ) (z e : ℕ) → IsLead ds z → length ds - z ≡ 0 → digits_value 10 ds * 10 ^ e ≡ 0
no_value ds z e lead nil =
    let a : digits_value 10 ds * 10 ^ e ≡ 0 * 10 ^ e = ap (λ k. k * 10 ^ e) (value_none ds z lead nil) in
    omega arith

none_if : (n m : ℕ) → (0 < n → 0 < m → ⊥) → 0 < m → n ≡ 0
none_if zero m z h = refl
none_if (suc n) m z h = absurd (z (omega arith) h)

neither : (n m : ℕ) → n ≡ m → (0 < n → 0 < m → ⊥) → n ≡ 0
neither zero m e z = refl
neither (suc n) m e z = absurd (z (omega arith) (omega arith))

some_of : (a b : List ℕ) (i j e f : ℕ) → IsLead a i → IsLead b j → (0 < length a - i) ⊎ (length a - i ≤ 0)
    → 0 < length a - i + (length b - j) → 0 < digits_value 10 a * 10 ^ e + digits_value 10 b * 10 ^ f
some_of a b i j e f la lb c h =
    elim c [
      | inl p ↦ omega (arith, some_value a i e la p)
      | inr q ↦ let p : 0 < length b - j = omega arith in omega (arith, some_value b j f lb p)
    ]

zero_by : (a b : List ℕ) (i j e f : ℕ) (o : Ordering) → IsLead a i → IsLead b j
    → (0 < length a - i → 0 < length b - j → ⊥)
    → MatchOrdering o (length a - i < length b - j) (length a - i ≡ length b - j)
    (length b - j < length a - i)
    → MatchOrdering o (digits_value 10 a * 10 ^ e < digits_value 10 b * 10 ^ f)
    (digits_value 10 a * 10 ^ e ≡ digits_value 10 b * 10 ^ f)
    (digits_value 10 b * 10 ^ f < digits_value 10 a * 10 ^ e)
zero_by a b i j e f Less la lb z h =
    let more : 0 < length b - j = omega arith in
    let none : length a - i ≡ 0 = none_if (length a - i) (length b - j) z more in
    omega (arith, no_value a i e la none, some_value b j f lb more)
zero_by a b i j e f Equal la lb z h =
    let none : length a - i ≡ 0 = neither (length a - i) (length b - j) h z in
    let none' : length b - j ≡ 0 = omega arith in
    no_value a i e la none ∙ sym (no_value b j f lb none')
zero_by a b i j e f Greater la lb z h =
    let more : 0 < length a - i = omega arith in
    let none : length b - j ≡ 0 = none_if (length b - j) (length a - i) (λ p q. z q p) more in
    omega (arith, no_value b j f lb none, some_value a i e la more)

-- where one of them is 0, the counts of their digits decide
pub zero_decides : (a b : List ℕ) (i j e f : ℕ) (o : Ordering) → IsLead a i → IsLead b j
    → (0 < length a - i → 0 < length b - j → ⊥) → o ≡ nat_cmp (length a - i) (length b - j)
    → o ≡ nat_cmp (digits_value 10 a * 10 ^ e) (digits_value 10 b * 10 ^ f)
zero_decides a b i j e f o la lb z is =
    nat_cmp_is _ _ o (zero_by a b i j e f o la lb z (ranked (length a - i) (length b - j) o is))

place_below : (a b : List ℕ) (i j e f : ℕ) → AllDigits 10 a → IsLead a i → IsLead b j → 0 < length b - j
    → length a - i + e < length b - j + f → digits_value 10 a * 10 ^ e < digits_value 10 b * 10 ^ f
place_below a b i j e f h la lb some lt =
    place_decides (digits_value 10 a) (digits_value 10 b) (length a - i) (length b - j - 1) e f
    (value_below a i h la) (value_above b j lb some) (omega arith)

place_by : (a b : List ℕ) (i j e f : ℕ) (o : Ordering) → AllDigits 10 a → AllDigits 10 b → IsLead a i
    → IsLead b j
    → 0 < length a - i → 0 < length b - j → (length a - i + e ≡ length b - j + f → ⊥)
    → MatchOrdering o (length a - i + e < length b - j + f) (length a - i + e ≡ length b - j + f)
    (length b - j + f < length a - i + e)
    → MatchOrdering o (digits_value 10 a * 10 ^ e < digits_value 10 b * 10 ^ f)
    (digits_value 10 a * 10 ^ e ≡ digits_value 10 b * 10 ^ f)
    (digits_value 10 b * 10 ^ f < digits_value 10 a * 10 ^ e)
place_by a b i j e f Less ha hb la lb p q ne h = place_below a b i j e f ha la lb q h
place_by a b i j e f Equal ha hb la lb p q ne h = absurd (ne h)
place_by a b i j e f Greater ha hb la lb p q ne h = place_below b a j i f e hb lb la p h

-- else the places of their first digits, where they differ
pub places_order : (a b : List ℕ) (i j e f : ℕ) (o : Ordering) → AllDigits 10 a → AllDigits 10 b → IsLead a i
    → IsLead b j
    → 0 < length a - i → 0 < length b - j → (length a - i + e ≡ length b - j + f → ⊥)
    → o ≡ nat_cmp (length a - i + e) (length b - j + f)
    → o ≡ nat_cmp (digits_value 10 a * 10 ^ e) (digits_value 10 b * 10 ^ f)
places_order a b i j e f o ha hb la lb p q ne is =
    nat_cmp_is _ _ o
    (place_by a b i j e f o ha hb la lb p q ne (ranked (length a - i + e) (length b - j + f) o is))

front_at : (a : List ℕ) (i m : ℕ) → IsLead a i → length a - i ≤ m
    → front a (i + m) ≡ digits_value 10 a * 10 ^ (m - (length a - i))
front_at a i m la le =
    let w = la.within in
    let e : i + m ≡ length a + (m - (length a - i)) = omega arith in
    ap (front a) e ∙ front_past a (m - (length a - i))

digits_by : (a b m n k e f : ℕ) (o : Ordering) → n + e ≡ k + f → n ≤ m → k ≤ m
    → MatchOrdering o (a * 10 ^ (m - n) < b * 10 ^ (m - k)) (a * 10 ^ (m - n) ≡ b * 10 ^ (m - k))
    (b * 10 ^ (m - k) < a * 10 ^ (m - n))
    → MatchOrdering o (a * 10 ^ e < b * 10 ^ f) (a * 10 ^ e ≡ b * 10 ^ f) (b * 10 ^ f < a * 10 ^ e)
digits_by a b m n k e f Less same p q h = digits_decide a b m n k e f same p q h
digits_by a b m n k e f Equal same p q h = digits_equal a b m n k e f same p q h
digits_by a b m n k e f Greater same p q h = digits_decide b a m k n f e (sym same) q p h

-- and else the digits, with zeros behind the last
pub digits_order : (a b : List ℕ) (i j e f m : ℕ) (o : Ordering) → IsLead a i → IsLead b j
    → length a - i ≤ m → length b - j ≤ m → length a - i + e ≡ length b - j + f
    → o ≡ nat_cmp (front a (i + m)) (front b (j + m))
    → o ≡ nat_cmp (digits_value 10 a * 10 ^ e) (digits_value 10 b * 10 ^ f)
digits_order a b i j e f m o la lb p q same is =
    let x = ap (λ t. nat_cmp t (front b (j + m))) (front_at a i m la p) in
    let y = ap (λ t. nat_cmp (digits_value 10 a * 10 ^ (m - (length a - i))) t) (front_at b j m lb q) in
    nat_cmp_is _ _ o
    (digits_by (digits_value 10 a) (digits_value 10 b) m (length a - i) (length b - j) e f o same p q
    (ranked _ _ o (is ∙ x ∙ y)))

same_test : (p q : ℕ) → (p ≡ 0 → q ≡ 0) → (0 < p → 0 < q) → (p == 0) ≡ (q == 0)
same_test zero q f g = sym (eq-eqb q 0 (f refl))
same_test (suc p) q f g =
    let l : 0 < q = g (omega arith) in
    ne_eqb (suc p) 0 (λ h. omega arith) ∙ sym (ne_eqb q 0 (λ h. omega arith))

-- both numbers are 0 where they have no digits
pub zero_test : (a b : List ℕ) (i j e f : ℕ) → IsLead a i → IsLead b j
    → (length a - i + (length b - j) == 0) ≡ (digits_value 10 a * 10 ^ e + digits_value 10 b * 10 ^ f == 0)
zero_test a b i j e f la lb =
    same_test (length a - i + (length b - j)) (digits_value 10 a * 10 ^ e + digits_value 10 b * 10 ^ f)
    (λ h. let p : length a - i ≡ 0 = omega arith in let q : length b - j ≡ 0 = omega arith in
    omega (arith, no_value a i e la p, no_value b j f lb q))
    (λ h. some_of a b i j e f la lb (cases_lt 0 (length a - i)) h)

pub cmp_of : (x y v w : ℕ) (o : Ordering) → o ≡ nat_cmp x y → x ≡ v → y ≡ w → o ≡ nat_cmp v w
cmp_of x y v w o is p q = is ∙ ap (λ k. nat_cmp k y) p ∙ ap (λ k. nat_cmp v k) q
