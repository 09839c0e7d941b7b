-- The indexes of a slice, one after another.
use Rattle.std.proofs.Common.{◌≡◌, ℕ, zero, suc, ◌+◌, ◌-◌, ◌*◌, ◌/◌, ◌%◌, ◌<◌, ◌≤◌, ◌==◌, Bool, true}
use Rattle.std.proofs.Common.{false, ◌&&◌, cond, List, [], ◌∷◌, refl, sym, ap, ap₂, ◌∙◌, subst, arith}
use Rattle.std.proofs.Common.{zero-add, add-zero, inl, inr}
use Rattle.std.specs.Prelude.{ℤ, pos, negsuc, ◌+ℤ◌, ◌-ℤ◌, ◌≤ℤ◌, ◌<ℤ◌, int_lt, int_le, IsTrue, nat_le}
use Rattle.std.specs.List.{filter, range_with_len}
use Rattle.std.specs.Ordering.{int_eq}
use borrow.Author.Tests.{eqb-true, ltb-true}
use lib.IntN.{nat_abs}
use Rattle.std.proofs.lemmas.Bool.{cases_lt, and_parts}
use Rattle.std.proofs.lemmas.Bool.Decides.{nat_tests}
use Rattle.std.proofs.lemmas.Int.{ints}
use Rattle.std.proofs.lemmas.Nat.{mod-mul-add, div-add-mod'}
use Rattle.jp_node.specs.Slice.{Bounds, slice_indexes, meets_rising, meets_falling, numbers_down, is_multiple}
use Rattle.jp_node.specs.Places.{later, AreWithin, IsPlace}

-- ---- filters

hit : (p : ℕ → Bool) (k : ℕ) (rest : List ℕ) → p k ≡ true → cond (p k) (k ∷ filter p rest) (filter p rest)
    ≡ k ∷ filter p rest
hit p k rest h = rw h refl

missed : (p : ℕ → Bool) (k : ℕ) (rest : List ℕ) → p k ≡ false
    → cond (p k) (k ∷ filter p rest) (filter p rest) ≡ filter p rest
missed p k rest h = rw h refl

pub none_up : (p : ℕ → Bool) (m from : ℕ) → ((k : ℕ) → from ≤ k → k < from + m → p k ≡ false)
    → filter p (range_with_len from m) ≡ []
none_up p zero from h = refl
none_up p (suc m) from h = missed p from (range_with_len (from + 1) m)
    (h from (omega arith) (omega arith))
    ∙ none_up p m (from + 1) (λ k low high. h k (omega arith) (omega arith))

sought_from : (p : ℕ → Bool) (n m from : ℕ) → ((k : ℕ) → from ≤ k → k < from + n → p k ≡ false)
    → p (from + n) ≡ true → filter p (range_with_len from (suc (n + m)))
    ≡ (from + n) ∷ filter p (range_with_len (from + n + 1) m)
sought_from p zero m from h at =
    rw (zero-add m, add-zero from) (hit p from (range_with_len (from + 1) m)
    (subst (λ k. p k ≡ true) (add-zero from) at))
sought_from p (suc n) m from h at =
    let e : from + suc n ≡ (from + 1) + n = omega arith in
    let l : suc n + m ≡ suc (n + m) = omega arith in
    rw (l, e) (missed p from (range_with_len (from + 1) (suc (n + m)))
    (h from (omega arith) (omega arith))
    ∙ sought_from p n m (from + 1) (λ k low high. h k (omega arith) (omega arith))
    (subst (λ k. p k ≡ true) e at))

pub sought_up : (p : ℕ → Bool) (from at len : ℕ) → from ≤ at → at < len
    → ((k : ℕ) → from ≤ k → k < at → p k ≡ false) → p at ≡ true
    → filter p (range_with_len from (len - from))
    ≡ at ∷ filter p (range_with_len (at + 1) (len - (at + 1)))
sought_up p from at len low high h here =
    let e : len - from ≡ suc ((at - from) + (len - (at + 1))) = omega arith in
    let f : from + (at - from) ≡ at = omega arith in
    rw e (subst (λ k. filter p (range_with_len from (suc ((at - from) + (len - (at + 1)))))
    ≡ k ∷ filter p (range_with_len (k + 1) (len - (at + 1)))) f
    (sought_from p (at - from) (len - (at + 1)) from (λ k low2 high2. h k low2 (omega arith))
    (subst (λ k. p k ≡ true) (sym f) here)))

pub none_down : (p : ℕ → Bool) (from : ℕ) → ((k : ℕ) → k < from → p k ≡ false)
    → filter p (numbers_down from) ≡ []
none_down p zero h = refl
none_down p (suc n) h = missed p n (numbers_down n) (h n (omega arith))
    ∙ none_down p n (λ k low. h k (omega arith))

next_down : (p : ℕ → Bool) (n at : ℕ) (b : Bool) → (n == at) ≡ b → at < suc n → (at < n → p n ≡ false)
    → p at ≡ true → (at < n → filter p (numbers_down n) ≡ at ∷ filter p (numbers_down at))
    → filter p (numbers_down (suc n)) ≡ at ∷ filter p (numbers_down at)
next_down p n at true e below h here further = let same : n ≡ at = grind (arith, nat_tests) in rw same
    (hit p at (numbers_down at) here)
next_down p n at false e below h here further = let less : at < n = grind (arith, nat_tests) in missed p n
    (numbers_down n) (h less) ∙ further less

pub sought_down : (p : ℕ → Bool) (from at : ℕ) → at < from → ((k : ℕ) → at < k → k < from → p k ≡ false)
    → p at ≡ true → filter p (numbers_down from) ≡ at ∷ filter p (numbers_down at)
sought_down p zero at below h here = absurd (omega arith)
sought_down p (suc n) at below h here =
    next_down p n at (n == at) refl below (λ less. h n less (omega arith)) here
    (λ less. sought_down p n at less (λ k low high. h k low (omega arith)) here)

-- ---- multiples

-- between a multiple and the next there is none
between : (a s r : ℕ) → a % s ≡ 0 → 0 < r → r < s → ((a + r) % s == 0) ≡ false
between a s r e low high =
    let whole : a ≡ a / s * s + 0 = sym (div-add-mod' a s) ∙ ap (λ m. a / s * s + m) e in
    let sum : a + r ≡ a / s * s + r = omega (arith, whole) in
    let rest : (a + r) % s ≡ r = ap (λ n. n % s) sum ∙ mod-mul-add (a / s) s r high in
    rw rest (grind (arith, nat_tests))

further : (a s : ℕ) → 0 < s → a % s ≡ 0 → ((a + s) % s == 0) ≡ true
further a s low e =
    let whole : a ≡ a / s * s + 0 = sym (div-add-mod' a s) ∙ ap (λ m. a / s * s + m) e in
    let sum : a + s ≡ (a / s + 1) * s + 0 = omega (arith, whole) in
    rw (sum, mod-mul-add (a / s + 1) s 0 low) refl

and-true : (x : Bool) → (x && true) ≡ x
and-true true = refl
and-true false = refl

and-false : (x : Bool) → (x && false) ≡ false
and-false true = refl
and-false false = refl

none_over : (s : ℕ) → 0 < s → (0 % s == 0) ≡ true
none_over s low = let e : 0 ≡ 0 * s + 0 = omega arith in rw (ap (λ n. n % s) e ∙ mod-mul-add 0 s 0 low)
    refl

below_not : (k : ℕ) (z : ℤ) → z ≤ℤ pos k → int_lt (pos k) z ≡ false
below_not k z h = grind (arith, ints)

below_is : (k : ℕ) (z : ℤ) → (pos k) <ℤ z → int_lt (pos k) z ≡ true
below_is k z h = grind (arith, ints)

int_zero : (x : ℕ) → int_eq (pos x) (pos 0) ≡ (x == 0)
int_zero zero = refl
int_zero (suc n) =
    let below : int_lt (pos (suc n)) (pos 0) ≡ false = grind (arith, nat_tests) in
    let above : int_lt (pos 0) (pos (suc n)) ≡ true = grind (arith, nat_tests) in
    let not_zero : (suc n == 0) ≡ false = grind (arith, nat_tests) in
    rw (below, above, not_zero) refl

-- ---- rising

module _ (b : Bounds) (l s : ℕ) (lower_is : b.lower ≡ pos l) (step_is : b.step ≡ pos s) (moves : 0 < s)
  where
    rises : int_lt (pos 0) b.step ≡ true
    rises = rw step_is (grind (arith, nat_tests))

    pub rising_at : (k : ℕ) → l ≤ k → meets_rising b k ≡ (int_lt (pos k) b.upper && ((k - l) % s == 0))
    rising_at k h =
        let e : pos k -ℤ pos l ≡ pos (k - l) = omega (arith, ints) in
        let t : nat_le l k ≡ true = grind (arith, nat_tests) in
        rw (lower_is, step_is, e, t) (ap (λ y. int_lt (pos k) b.upper && y) (int_zero ((k - l) % s)))

    pub rising_low : (k : ℕ) → k < l → meets_rising b k ≡ false
    rising_low k h = let t : nat_le l k ≡ false = grind (arith, nat_tests) in rw (lower_is, t) refl

    rising_high : (k : ℕ) → l ≤ k → b.upper ≤ℤ pos k → meets_rising b k ≡ false
    rising_high k h past = rising_at k h ∙ rw (below_not k b.upper past) refl

    -- what is not below the upper bound is no index of the slice, nor is what is below the lower one
    rising_none : (k : ℕ) → b.upper ≤ℤ pos l → meets_rising b k ≡ false
    rising_none k past = elim (cases_lt k l) [
      | inl h ↦ rising_low k h
      | inr h ↦ rising_high k h (omega (arith, ints))
    ]

    rising_empty : (len : ℕ) → b.upper ≤ℤ pos l → slice_indexes b len ≡ []
    rising_empty len past = rw rises (none_up (meets_rising b) len 0 (λ k low high. rising_none k past))

    rising_first_meets : (pos l) <ℤ b.upper → meets_rising b l ≡ true
    rising_first_meets h =
        let e : l - l ≡ 0 = omega arith in
        rising_at l (omega arith) ∙ rw (below_is l b.upper h, e, none_over s moves) refl

    rising_first : (len : ℕ) → (pos l) <ℤ b.upper → b.upper ≤ℤ pos len
        → slice_indexes b len ≡ l ∷ later b len l
    rising_first len h top =
        let within : l < len = omega (arith, ints) in
        let e : len - 0 ≡ len = omega arith in
        rw rises (subst (λ n. filter (meets_rising b) (range_with_len 0 n) ≡ l ∷ filter (meets_rising b)
        (range_with_len (l + 1) (len - (l + 1)))) e
        (sought_up (meets_rising b) 0 l len (omega arith) within (λ k low high. rising_low k high)
        (rising_first_meets h)))

    module _ (i : ℕ) (from : l ≤ i) (multiple : (i - l) % s ≡ 0) where
      rising_between : (k : ℕ) → i < k → k < i + s → meets_rising b k ≡ false
      rising_between k low high =
          let e : k - l ≡ (i - l) + (k - i) = omega arith in
          rising_at k (omega arith) ∙ rw (e, between (i - l) s (k - i) multiple (omega arith) (omega arith))
          (and-false (int_lt (pos k) b.upper))

      rising_next_meets : (pos (i + s)) <ℤ b.upper → meets_rising b (i + s) ≡ true
      rising_next_meets h =
          let e : i + s - l ≡ (i - l) + s = omega arith in
          rising_at (i + s) (omega arith)
          ∙ rw (below_is (i + s) b.upper h, e, further (i - l) s moves multiple) refl

      rising_next : (len : ℕ) → (pos (i + s)) <ℤ b.upper → b.upper ≤ℤ pos len
          → later b len i ≡ (i + s) ∷ later b len (i + s)
      rising_next len h top =
          let within : i + s < len = omega (arith, ints) in
          rw rises (sought_up (meets_rising b) (i + 1) (i + s) len (omega arith) within
          (λ k low high. rising_between k (omega arith) high) (rising_next_meets h))

      rising_past : (k : ℕ) → i < k → b.upper ≤ℤ pos (i + s) → meets_rising b k ≡ false
      rising_past k low past = elim (cases_lt k (i + s)) [
        | inl h ↦ rising_between k low h
        | inr h ↦ rising_high k (omega arith) (omega (arith, ints))
      ]

      rising_last : (len : ℕ) → b.upper ≤ℤ pos (i + s) → later b len i ≡ []
      rising_last len past =
          rw rises (none_up (meets_rising b) (len - (i + 1)) (i + 1)
          (λ k low high. rising_past k (omega arith) past))

-- ---- falling

not_below : (k : ℕ) (z : ℤ) → pos k ≤ℤ z → int_lt z (pos k) ≡ false
not_below k z h = grind (arith, ints)

is_below : (k : ℕ) (z : ℤ) → z <ℤ pos k → int_lt z (pos k) ≡ true
is_below k z h = grind (arith, ints)

module _ (b : Bounds) (u r : ℕ) (upper_is : b.upper ≡ pos u) (step_is : b.step ≡ negsuc r) where
  not_rising : int_lt (pos 0) b.step ≡ false
  not_rising = rw step_is refl

  falls : int_lt b.step (pos 0) ≡ true
  falls = rw step_is refl

  pub falling_at : (k : ℕ) → k ≤ u
      → meets_falling b k ≡ (int_lt b.lower (pos k) && ((u - k) % suc r == 0))
  falling_at k h =
      let e : pos u -ℤ pos k ≡ pos (u - k) = omega (arith, ints) in
      let t : nat_le k u ≡ true = grind (arith, nat_tests) in
      rw (upper_is, step_is, e, t) (ap₂ (λ x y. x && y) (and-true (int_lt b.lower (pos k)))
      (int_zero ((u - k) % suc r)))

  pub falling_high : (k : ℕ) → u < k → meets_falling b k ≡ false
  falling_high k h =
      let t : nat_le k u ≡ false = grind (arith, nat_tests) in
      rw (upper_is, t) (ap (λ x. x && is_multiple (pos u -ℤ pos k) b.step)
      (and-false (int_lt b.lower (pos k))))

  falling_low : (k : ℕ) → k ≤ u → pos k ≤ℤ b.lower → meets_falling b k ≡ false
  falling_low k h past = falling_at k h ∙ rw (not_below k b.lower past) refl

  falling_first_meets : b.lower <ℤ pos u → meets_falling b u ≡ true
  falling_first_meets h =
      let e : u - u ≡ 0 = omega arith in
      falling_at u (omega arith) ∙ rw (is_below u b.lower h, e, none_over (suc r) (omega arith)) refl

  falling_first : (len : ℕ) → b.lower <ℤ pos u → u < len → slice_indexes b len ≡ u ∷ later b len u
  falling_first len h within =
      rw (not_rising, falls) (sought_down (meets_falling b) len u within (λ k low high. falling_high k low)
      (falling_first_meets h))

  module _ (i j : ℕ) (from : i ≤ u) (multiple : (u - i) % suc r ≡ 0) where
    falling_between : (k : ℕ) → k < i → i < k + suc r → meets_falling b k ≡ false
    falling_between k low high =
        let e : u - k ≡ (u - i) + (i - k) = omega arith in
        falling_at k (omega arith)
        ∙ rw (e, between (u - i) (suc r) (i - k) multiple (omega arith) (omega arith))
        (and-false (int_lt b.lower (pos k)))

    falling_next_meets : j + suc r ≡ i → b.lower <ℤ pos j → meets_falling b j ≡ true
    falling_next_meets step h =
        let e : u - j ≡ (u - i) + suc r = omega arith in
        falling_at j (omega arith)
        ∙ rw (is_below j b.lower h, e, further (u - i) (suc r) (omega arith) multiple) refl

    falling_next : (len : ℕ) → j + suc r ≡ i → b.lower <ℤ pos j → later b len i ≡ j ∷ later b len j
    falling_next len step h =
        rw (not_rising, falls) (sought_down (meets_falling b) i j (omega arith)
        (λ k low high. falling_between k high (omega arith)) (falling_next_meets step h))

    falling_past : (k : ℕ) → k < i → (pos i -ℤ pos (suc r)) ≤ℤ b.lower → meets_falling b k ≡ false
    falling_past k low past = elim (cases_lt i (k + suc r)) [
      | inl h ↦ falling_between k low h
      | inr h ↦ falling_low k (omega arith) (omega (arith, ints))
    ]

    falling_last : (len : ℕ) → (pos i -ℤ pos (suc r)) ≤ℤ b.lower → later b len i ≡ []
    falling_last len past =
        rw (not_rising, falls) (none_down (meets_falling b) i (λ k low. falling_past k low past))

-- ---- the indexes, from the numbers as they are

never_both : (z : ℤ) → pos 0 <ℤ z → IsTrue (int_lt z (pos 0)) → ⊥
never_both (pos n) up down = let below : n < 0 = ltb-true n 0 down in absurd (omega arith)
never_both (negsuc n) up down = absurd (omega (arith, ints))

never_up : (z : ℤ) → z <ℤ pos 0 → IsTrue (int_lt (pos 0) z) → ⊥
never_up (pos n) down up = absurd (omega (arith, ints))
never_up (negsuc n) down up = absurd cc

not_above : (z : ℤ) (i : ℕ) → z ≡ pos (nat_abs z) → int_le z (pos i) ≡ true → nat_abs z ≤ i
not_above (pos n) i e h = grind (arith, nat_tests)
not_above (negsuc n) i e h = absurd cc

pub less : (a b : ℤ) → int_lt a b ≡ true → a <ℤ b
less a b h = grind (arith, ints)

not_less : (a b : ℤ) → int_lt a b ≡ false → b ≤ℤ a
not_less a b h = grind (arith, ints)

pub natural : (z : ℤ) → pos 0 ≤ℤ z → z ≡ pos (nat_abs z)
natural (pos n) h = refl
natural (negsuc n) h = absurd (omega (arith, ints))

pub negative : (z : ℤ) → z <ℤ pos 0 → (r : ℕ) × (z ≡ negsuc r)
negative (pos n) h = absurd (omega (arith, ints))
negative (negsuc n) h = (n, refl)

positive : (z : ℤ) → pos 0 <ℤ z → 0 < nat_abs z
positive (pos n) h = omega (arith, ints)
positive (negsuc n) h = absurd (omega (arith, ints))

module _ (b : Bounds) (n : ℕ) (w : AreWithin b n) (up : pos 0 <ℤ b.step) where
  from_lower : b.lower ≡ pos (nat_abs b.lower)
  from_lower = let h = w.lower_of_rising (omega (arith, ints)) in natural b.lower h

  by_step : b.step ≡ pos (nat_abs b.step)
  by_step = natural b.step (omega (arith, ints))

  pub rising_starts : (len : ℕ) → AreWithin b len → int_lt b.lower b.upper ≡ true
      → nat_abs b.lower ∷ later b len (nat_abs b.lower) ≡ slice_indexes b len
  rising_starts len v t =
      let top = v.upper in
      sym (rising_first b (nat_abs b.lower) (nat_abs b.step) from_lower by_step (positive b.step up) len
      (rw (← from_lower) (less b.lower b.upper t)) top)

  pub rising_starts_at : int_lt b.lower b.upper ≡ true → IsPlace b (nat_abs b.lower)
  rising_starts_at t = record {
    rising = λ _. rising_first_meets b (nat_abs b.lower) (nat_abs b.step) from_lower by_step
        (positive b.step up) (rw (← from_lower) (less b.lower b.upper t));
    falling = λ down. absurd (never_both b.step up down);
  }

  pub rising_is_empty : (len : ℕ) → int_lt b.lower b.upper ≡ false → [] ≡ slice_indexes b len
  rising_is_empty len t =
      sym (rising_empty b (nat_abs b.lower) (nat_abs b.step) from_lower by_step (positive b.step up) len
      (rw (← from_lower) (not_less b.lower b.upper t)))

  module _ (i : ℕ) (place : IsPlace b i) where
    meets : meets_rising b i ≡ true
    meets = place.rising (rw by_step (grind (arith, nat_tests)))

    at_or_above : nat_abs b.lower ≤ i
    at_or_above =
        let parts = and_parts (int_le b.lower (pos i) && int_lt (pos i) b.upper)
        (is_multiple (pos i -ℤ b.lower) b.step) meets in
        let low = (and_parts (int_le b.lower (pos i)) (int_lt (pos i) b.upper) parts.0).0 in
        not_above b.lower i from_lower low

    some_steps : (i - nat_abs b.lower) % nat_abs b.step ≡ 0
    some_steps =
        let e = rising_at b (nat_abs b.lower) (nat_abs b.step) from_lower by_step (positive b.step up) i
        at_or_above in
        eqb-true ((i - nat_abs b.lower) % nat_abs b.step) 0
        (and_parts (int_lt (pos i) b.upper) ((i - nat_abs b.lower) % nat_abs b.step == 0) (sym e
        ∙ meets)).1

    next_is : nat_abs (pos i +ℤ b.step) ≡ i + nat_abs b.step
    next_is = ap (λ z. nat_abs (pos i +ℤ z)) by_step

    goes : int_lt (pos i +ℤ b.step) b.upper ≡ true → (pos (i + nat_abs b.step)) <ℤ b.upper
    goes t = let e : pos i +ℤ b.step ≡ pos (i + nat_abs b.step) = ap (λ z. pos i +ℤ z) by_step in rw (← e)
        (less (pos i +ℤ b.step) b.upper t)

    pub rising_goes : (len : ℕ) → AreWithin b len → int_lt (pos i +ℤ b.step) b.upper ≡ true
        → nat_abs (pos i +ℤ b.step) ∷ later b len (nat_abs (pos i +ℤ b.step)) ≡ later b len i
    rising_goes len v t =
        let top = v.upper in
        rw next_is (sym (rising_next b (nat_abs b.lower) (nat_abs b.step) from_lower by_step
        (positive b.step up) i at_or_above some_steps len (goes t) top))

    pub rising_goes_to : int_lt (pos i +ℤ b.step) b.upper ≡ true → IsPlace b (nat_abs (pos i +ℤ b.step))
    rising_goes_to t = record {
      rising = λ _. rw next_is (rising_next_meets b (nat_abs b.lower) (nat_abs b.step) from_lower by_step
          (positive b.step up) i at_or_above some_steps (goes t));
      falling = λ down. absurd (never_both b.step up down);
    }

    pub rising_ends : (len : ℕ) → int_lt (pos i +ℤ b.step) b.upper ≡ false → [] ≡ later b len i
    rising_ends len t =
        let e : pos i +ℤ b.step ≡ pos (i + nat_abs b.step) = ap (λ z. pos i +ℤ z) by_step in
        sym (rising_last b (nat_abs b.lower) (nat_abs b.step) from_lower by_step (positive b.step up) i
        at_or_above some_steps len (rw (← e) (not_less (pos i +ℤ b.step) b.upper t)))

none_of : (low up : ℤ) (k : ℕ) → up ≤ℤ low → (int_lt low (pos k) && int_le (pos k) up) ≡ false
none_of low up k h = grind (arith, ints)

module _ (b : Bounds) (n : ℕ) (w : AreWithin b n) (down : b.step <ℤ pos 0) where
  steps_down : (r : ℕ) × (b.step ≡ negsuc r)
  steps_down = negative b.step down

  is_falling : int_lt b.step (pos 0) ≡ true
  is_falling = rw steps_down.1 refl

  from_upper : int_lt b.lower b.upper ≡ true → b.upper ≡ pos (nat_abs b.upper)
  from_upper t = let h = less b.lower b.upper t in let g =
      w.lower in natural b.upper (omega (arith, ints))

  pub falling_starts : (len : ℕ) → AreWithin b len → int_lt b.lower b.upper ≡ true
      → nat_abs b.upper ∷ later b len (nat_abs b.upper) ≡ slice_indexes b len
  falling_starts len v t =
      let top = v.upper_of_falling (omega (arith, ints)) in
      let e = from_upper t in
      let within : nat_abs b.upper < len = omega (arith, ints) in
      sym (falling_first b (nat_abs b.upper) steps_down.0 e steps_down.1 len
      (subst (λ z. b.lower <ℤ z) e (less b.lower b.upper t)) within)

  pub falling_is_empty : (len : ℕ) → int_lt b.lower b.upper ≡ false → [] ≡ slice_indexes b len
  falling_is_empty len t =
      let past = not_less b.lower b.upper t in
      let up : int_lt (pos 0) b.step ≡ false = rw steps_down.1 refl in
      rw (up, is_falling) (sym
      (none_down (meets_falling b) len (λ k low. rw (none_of b.lower b.upper k past) refl)))

  module _ (i : ℕ) (place : IsPlace b i) where
    meets_down : meets_falling b i ≡ true
    meets_down = place.falling is_falling

    at_or_below : pos i ≤ℤ b.upper
    at_or_below =
        let parts = and_parts (int_lt b.lower (pos i) && int_le (pos i) b.upper)
        (is_multiple (b.upper -ℤ pos i) b.step) meets_down in
        let t = (and_parts (int_lt b.lower (pos i)) (int_le (pos i) b.upper) parts.0).1 in
        grind (arith, ints)

    upper_is : b.upper ≡ pos (nat_abs b.upper)
    upper_is = let h = at_or_below in natural b.upper (omega (arith, ints))

    below_upper : i ≤ nat_abs b.upper
    below_upper = let h = at_or_below in let e = upper_is in omega (arith, ints)

    some_steps_down : (nat_abs b.upper - i) % suc steps_down.0 ≡ 0
    some_steps_down =
        let e = falling_at b (nat_abs b.upper) steps_down.0 upper_is steps_down.1 i below_upper in
        eqb-true ((nat_abs b.upper - i) % suc steps_down.0) 0
        (and_parts (int_lt b.lower (pos i)) ((nat_abs b.upper - i) % suc steps_down.0 == 0) (sym e
        ∙ meets_down)).1

    next_natural : int_lt b.lower (pos i +ℤ b.step) ≡ true
        → pos i +ℤ b.step ≡ pos (nat_abs (pos i +ℤ b.step))
    next_natural t = let h = less b.lower (pos i +ℤ b.step) t in let g =
        w.lower in natural (pos i +ℤ b.step) (omega (arith, ints))

    next_below : int_lt b.lower (pos i +ℤ b.step) ≡ true → nat_abs (pos i +ℤ b.step) + suc steps_down.0
        ≡ i
    next_below t = let e = next_natural t in let s = steps_down.1 in omega (arith, ints)

    above_lower : int_lt b.lower (pos i +ℤ b.step) ≡ true → b.lower <ℤ pos (nat_abs (pos i +ℤ b.step))
    above_lower t = subst (λ z. b.lower <ℤ z) (next_natural t) (less b.lower (pos i +ℤ b.step) t)

    pub falling_goes : (len : ℕ) → int_lt b.lower (pos i +ℤ b.step) ≡ true
        → nat_abs (pos i +ℤ b.step) ∷ later b len (nat_abs (pos i +ℤ b.step)) ≡ later b len i
    falling_goes len t =
        sym (falling_next b (nat_abs b.upper) steps_down.0 upper_is steps_down.1 i
        (nat_abs (pos i +ℤ b.step)) below_upper some_steps_down len (next_below t) (above_lower t))

    pub falling_goes_to : int_lt b.lower (pos i +ℤ b.step) ≡ true → IsPlace b (nat_abs (pos i +ℤ b.step))
    falling_goes_to t = record {
      rising = λ up. absurd (never_up b.step down up);
      falling = λ _. falling_next_meets b (nat_abs b.upper) steps_down.0 upper_is steps_down.1 i
          (nat_abs (pos i +ℤ b.step)) below_upper some_steps_down (next_below t) (above_lower t);
    }

    pub falling_ends : (len : ℕ) → int_lt b.lower (pos i +ℤ b.step) ≡ false → [] ≡ later b len i
    falling_ends len t =
        let h = not_less b.lower (pos i +ℤ b.step) t in
        let s = steps_down.1 in
        let past : (pos i -ℤ pos (suc steps_down.0)) ≤ℤ b.lower = omega (arith, ints) in
        sym (falling_last b (nat_abs b.upper) steps_down.0 upper_is steps_down.1 i 0 below_upper
        some_steps_down len past)
