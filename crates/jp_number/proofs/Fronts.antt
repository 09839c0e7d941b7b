-- The first digits of a list as one number.
use Rattle.std.proofs.Common.{◌≡◌, ℕ, zero, suc, ◌+◌, ◌-◌, ◌*◌, ◌^◌, ◌<◌, ◌≤◌, List, [], ◌∷◌, length, take}
use Rattle.std.proofs.Common.{get_or, refl, sym, ap, ◌∙◌, arith, add-one}
use Rattle.std.proofs.Common.{◌++◌, length-append}
use Rattle.std.proofs.lemmas.List.{take_all, get_or_past, get_or_append_left, get_or-append_right}
use Rattle.std.proofs.lemmas.Int.Digits.{digits_value-lt}
use Rattle.std.proofs.lemmas.Str.Parse.{digits_value-take-le}
use Rattle.std.proofs.Math.Nat.{pow-le-pow_right}
use Rattle.std.proofs.lemmas.Cmp.{ranked}
use Rattle.std.specs.Cmp.{nat_cmp_is}
use Rattle.std.specs.Ordering.{nat_cmp, MatchOrdering}
use Rattle.std.specs.declared.cmp.Ordering.{Ordering}
use Rattle.std.specs.declared.cmp.Ordering.TheVariants.{Less, Equal, Greater}
use Rattle.std.proofs.lemmas.Int.Digits.{digits_value_more}
use Rattle.std.proofs.lemmas.Str.{digit_value_digit}
use Rattle.std.proofs.lemmas.Str.Parse.{digit_from_value}
use Rattle.std.proofs.Math.Nat.{pow-suc}
use Rattle.std.specs.Char.{digit_value}
use Rattle.std.specs.Int.{IsInRange}
use Rattle.std.specs.Str.Parse.{AllDigits, digits_value}
use Rattle.jp_number.specs.inner.Front.{digit, front}

pub front_none : (ds : List ℕ) → front ds 0 ≡ 0
unfolding front
front_none ds = refl

pub front_suc : (ds : List ℕ) (k : ℕ) → front ds (suc k) ≡ front ds k * 10 + digit ds k
unfolding front
front_suc ds k = refl

pub front_more : (ds : List ℕ) (k : ℕ) → front ds (k + 1) ≡ front ds k * 10 + digit ds k
front_more ds k = ap (front ds) (add-one k) ∙ front_suc ds k

front_onward : (ds : List ℕ) (i m : ℕ) → front ds (i + suc m) ≡ front ds (i + m) * 10 + digit ds (i + m)
front_onward ds i m =
    let e : i + suc m ≡ suc (i + m) = omega arith in
    ap (front ds) e ∙ front_suc ds (i + m)

pub digit_is : (ds : List ℕ) (k : ℕ) → digit ds k ≡ digit_value (get_or ds k 48)
unfolding digit
digit_is ds k = refl

at_value : (ds : List ℕ) (k d : ℕ) → AllDigits 10 ds → k < length ds → digit_value (get_or ds k d) < 10
at_value [] k d h l = absurd (omega arith)
at_value (c ∷ ds) zero d h l = h.0
at_value (c ∷ ds) (suc k) d h l = at_value ds k d h.1 (omega arith)

-- a byte among digits
pub at_range : (ds : List ℕ) (k d : ℕ) → AllDigits 10 ds → k < length ds → IsInRange 48 57 (get_or ds k d)
at_range ds k d h l = digit_from_value (get_or ds k d) (at_value ds k d h l)

same_at : (ds : List ℕ) (k d e : ℕ) → k < length ds → get_or ds k d ≡ get_or ds k e
same_at [] k d e l = absurd (omega arith)
same_at (c ∷ ds) zero d e l = refl
same_at (c ∷ ds) (suc k) d e l = same_at ds k d e (omega arith)

-- what the code reads as the digit
pub digit_byte : (ds : List ℕ) (k : ℕ) → AllDigits 10 ds → k < length ds → get_or ds k 0 - 48 ≡ digit ds k
digit_byte ds k h l =
    let r = at_range ds k 0 h l in
    let v : digit_value (get_or ds k 0) + 48 ≡ get_or ds k 0 = digit_value_digit (get_or ds k 0) r in
    let e : digit ds k ≡ digit_value (get_or ds k 0) = digit_is ds k ∙ ap digit_value (same_at ds k 48 0 l) in
    omega arith

pub digit_past : (ds : List ℕ) (k : ℕ) → length ds ≤ k → digit ds k ≡ 0
digit_past ds k l = digit_is ds k ∙ ap digit_value (get_or_past ds k 48 l)

by_place : (P : Type 0) (k n : ℕ) → (k < n → P) → (n ≤ k → P) → P
by_place P k zero f g = g (omega arith)
by_place P zero (suc n) f g = f (omega arith)
by_place P (suc k) (suc n) f g = by_place P k n (λ h. f (omega arith)) (λ h. g (omega arith))

pub digit_below : (ds : List ℕ) (k : ℕ) → AllDigits 10 ds → digit ds k < 10
digit_below ds k h =
    by_place (digit ds k < 10) k (length ds)
    (λ l. let v : digit_value (get_or ds k 48) < 10 = at_value ds k 48 h l in omega (arith, digit_is ds k))
    (λ l. omega (arith, digit_past ds k l))

-- up to its end, it is what std says
front_take : (ds : List ℕ) (k : ℕ) → k ≤ length ds → front ds k ≡ digits_value 10 (take k ds)
front_take ds zero l = front_none ds
front_take ds (suc k) l =
    let before : front ds k ≡ digits_value 10 (take k ds) = front_take ds k (omega arith) in
    let inside : k < length ds = omega arith in
    let more = digits_value_more 10 ds k in
    let d : digit ds k ≡ digit_value (get_or ds k 0) =
    digit_is ds k ∙ ap digit_value (same_at ds k 48 0 inside) in
    let t : digits_value 10 (take (k + 1) ds) ≡ digits_value 10 (take (suc k) ds) =
    ap (λ n. digits_value 10 (take n ds)) (add-one k) in
    omega (arith, front_suc ds k, more inside)

pub front_all : (ds : List ℕ) → front ds (length ds) ≡ digits_value 10 ds
front_all ds =
    front_take ds (length ds) (omega arith)
    ∙ ap (digits_value 10) (take_all (length ds) ds (omega arith))

-- zeros behind the last digit
pub front_past : (ds : List ℕ) (m : ℕ) → front ds (length ds + m) ≡ digits_value 10 ds * 10 ^ m
front_past ds zero =
    let e : length ds + 0 ≡ length ds = omega arith in
    let a : front ds (length ds + 0) ≡ front ds (length ds) = ap (front ds) e in
    omega (arith, front_all ds)
front_past ds (suc m) =
    let before : front ds (length ds + m) ≡ digits_value 10 ds * 10 ^ m = front_past ds m in
    let none : digit ds (length ds + m) ≡ 0 = digit_past ds (length ds + m) (omega arith) in
    let p : 10 ^ suc m ≡ 10 ^ m * 10 = pow-suc 10 m in
    let q : digits_value 10 ds * 10 ^ suc m ≡ digits_value 10 ds * (10 ^ m * 10) =
    ap (λ x. digits_value 10 ds * x) p in
    omega (arith, front_onward ds (length ds) m, before, none, q)

-- a difference stays
pub apart : (a b : List ℕ) (i j m : ℕ) → AllDigits 10 a → front a i < front b j
    → front a (i + m) < front b (j + m)
apart a b i j zero h l =
    let e : front a (i + 0) ≡ front a i = ap (front a) (omega arith) in
    let f : front b (j + 0) ≡ front b j = ap (front b) (omega arith) in
    omega arith
apart a b i j (suc m) h l =
    let before : front a (i + m) < front b (j + m) = apart a b i j m h l in
    omega (arith, front_onward a i m, front_onward b j m, digit_below a (i + m) h)

-- behind zeros alone, so many digits make a number of so many digits at most
pub most : (ds : List ℕ) (z m : ℕ) → AllDigits 10 ds → front ds z ≡ 0 → front ds (z + m) < 10 ^ m
most ds z zero h none = let e : front ds (z + 0) ≡ front ds z = ap (front ds) (omega arith) in omega arith
most ds z (suc m) h none =
    let before : front ds (z + m) < 10 ^ m = most ds z m h none in
    let p : 10 ^ suc m ≡ 10 ^ m * 10 = pow-suc 10 m in
    omega (arith, front_onward ds z m, digit_below ds (z + m) h)

-- and with a first digit that is not 0, of so many at least
pub least : (ds : List ℕ) (i m : ℕ) → 0 < front ds i → 10 ^ m ≤ front ds (i + m)
least ds i zero some = let e : front ds (i + 0) ≡ front ds i = ap (front ds) (omega arith) in omega arith
least ds i (suc m) some =
    let before : 10 ^ m ≤ front ds (i + m) = least ds i m some in
    let p : 10 ^ suc m ≡ 10 ^ m * 10 = pow-suc 10 m in
    omega (arith, front_onward ds i m)

-- ---- what the code reads

pub byte_left : (w f : List ℕ) (k : ℕ) → AllDigits 10 (w ++ f) → k < length w
    → (48 ≤ get_or w k 0) × (get_or w k 0 - 48 ≡ digit (w ++ f) k)
byte_left w f k h l =
    let e : get_or (w ++ f) k 0 ≡ get_or w k 0 = get_or_append_left w f 0 k l in
    let m : k < length (w ++ f) = omega (arith, length-append w f) in
    let r = at_range (w ++ f) k 0 h m in
    (omega (arith, r.0, e), omega (arith, digit_byte (w ++ f) k h m, e))

pub byte_right : (w f : List ℕ) (k : ℕ) → AllDigits 10 (w ++ f) → length w ≤ k → k - length w < length f
    → (48 ≤ get_or f (k - length w) 0) × (get_or f (k - length w) 0 - 48 ≡ digit (w ++ f) k)
byte_right w f k h l n =
    let e : get_or (w ++ f) k 0 ≡ get_or f (k - length w) 0 = get_or-append_right w f (length w) k 0 refl l in
    let m : k < length (w ++ f) = omega (arith, length-append w f) in
    let r = at_range (w ++ f) k 0 h m in
    (omega (arith, r.0, e), omega (arith, digit_byte (w ++ f) k h m, e))

pub byte_none : (w f : List ℕ) (k : ℕ) → length w ≤ k → length f ≤ k - length w → 0 ≡ digit (w ++ f) k
byte_none w f k l n = sym (digit_past (w ++ f) k (omega (arith, length-append w f)))

-- the value of few digits is small
pub few_value : (ds : List ℕ) (k : ℕ) → AllDigits 10 ds → length ds ≤ 9 → digits_value 10 (take k ds) < 10 ^ 9
few_value ds k h few =
    let t : 0 < 10 = omega arith in
    let u : 1 ≤ 10 = omega arith in
    let a : 10 ^ length ds ≤ 10 ^ 9 = pow-le-pow_right t few in
    omega (arith, digits_value-lt 10 ds h, digits_value-take-le 10 ds k u, a)

decided_by : (a b : List ℕ) (i j m : ℕ) (o : Ordering) → AllDigits 10 a → AllDigits 10 b
    → front a i ≡ front b j
    → MatchOrdering o (digit a i < digit b j) (digit a i ≡ digit b j) (digit b j < digit a i)
    → (digit a i ≡ digit b j → ⊥)
    → MatchOrdering o (front a (suc i + m) < front b (suc j + m)) (front a (suc i + m) ≡ front b (suc j + m))
    (front b (suc j + m) < front a (suc i + m))
decided_by a b i j m Less h k same is ne =
    let l : front a (suc i) < front b (suc j) = omega (arith, front_suc a i, front_suc b j, is) in
    apart a b (suc i) (suc j) m h l
decided_by a b i j m Equal h k same is ne = absurd (ne is)
decided_by a b i j m Greater h k same is ne =
    let l : front b (suc j) < front a (suc i) = omega (arith, front_suc a i, front_suc b j, is) in
    apart b a (suc j) (suc i) m k l

-- the first two digits that differ decide
pub decided : (a b : List ℕ) (i j at count : ℕ) (o : Ordering) → AllDigits 10 a → AllDigits 10 b
    → front a (i + at) ≡ front b (j + at) → at < count → o ≡ nat_cmp (digit a (i + at)) (digit b (j + at))
    → (digit a (i + at) ≡ digit b (j + at) → ⊥) → o ≡ nat_cmp (front a (i + count)) (front b (j + count))
decided a b i j at count o h k same l is ne =
    let m = count - suc at in
    let x : suc (i + at) + m ≡ i + count = omega arith in
    let y : suc (j + at) + m ≡ j + count = omega arith in
    let r = decided_by a b (i + at) (j + at) m o h k same (ranked _ _ o is) ne in
    nat_cmp_is (front a (suc (i + at) + m)) (front b (suc (j + at) + m)) o r
    ∙ ap (λ t. nat_cmp (front a t) (front b (suc (j + at) + m))) x
    ∙ ap (λ t. nat_cmp (front a (i + count)) (front b t)) y

pub next_value : (ds : List ℕ) (k value : ℕ) → AllDigits 10 ds → k < length ds
    → value ≡ digits_value 10 (take k ds)
    → value * 10 + (get_or ds k 0 - 48) ≡ digits_value 10 (take (k + 1) ds)
next_value ds k value h l is =
    let v : digit_value (get_or ds k 0) + 48 ≡ get_or ds k 0 =
    digit_value_digit (get_or ds k 0) (at_range ds k 0 h l) in
    omega (arith, digits_value_more 10 ds k l, v, is)

pub both_more : (a b : List ℕ) (i j k : ℕ) → front a (i + k) ≡ front b (j + k)
    → digit a (i + k) ≡ digit b (j + k)
    → front a (i + (k + 1)) ≡ front b (j + (k + 1))
both_more a b i j k is same =
    let x : i + (k + 1) ≡ suc (i + k) = omega arith in
    let y : j + (k + 1) ≡ suc (j + k) = omega arith in
    let e : front a (i + (k + 1)) ≡ front a (i + k) * 10 + digit a (i + k) =
    ap (front a) x ∙ front_suc a (i + k) in
    let f : front b (j + (k + 1)) ≡ front b (j + k) * 10 + digit b (j + k) =
    ap (front b) y ∙ front_suc b (j + k) in
    omega (arith, e, f, is, same)
