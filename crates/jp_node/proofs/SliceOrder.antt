-- The indexes of a slice rise or fall, within the array.
use Rattle.std.proofs.Common.{◌≡◌, ℕ, zero, suc, ◌+◌, ◌<◌, ◌≤◌, Bool, true, false, cond, List, [], ◌∷◌}
use Rattle.std.proofs.Common.{Option, Some, refl, sym, subst, arith}
use Rattle.std.specs.Prelude.{IsTrue, ℤ, pos, negsuc, int_lt}
use borrow.Author.Tests.{ltb-true}
use Rattle.std.specs.List.{filter, range_with_len, AllByRecursion}
use Rattle.jp_node.specs.Slice.{Bounds, slice_bounds, rising_bounds, falling_bounds, slice_indexes}
use Rattle.jp_node.specs.Slice.{numbers_down, meets_rising, meets_falling, RisesFrom, FallsBelow}

lower_start : (low high : ℕ) (is : List ℕ) → low ≤ high → RisesFrom high is → RisesFrom low is
lower_start low high [] h r = tt
lower_start low high (i ∷ is) h r = (omega arith, r.1)

kept_rises : (test : ℕ → Bool) (b : Bool) (i n : ℕ)
    → RisesFrom (i + 1) (filter test (range_with_len (i + 1) n))
    → RisesFrom i (cond b (i ∷ filter test (range_with_len (i + 1) n))
    (filter test (range_with_len (i + 1) n)))
kept_rises test true i n r = (omega arith, r)
kept_rises test false i n r = lower_start i (i + 1) _ (omega arith) r

pub filtered_rises : (test : ℕ → Bool) (n i : ℕ) → RisesFrom i (filter test (range_with_len i n))
filtered_rises test zero i = tt
filtered_rises test (suc n) i = kept_rises test (test i) i n (filtered_rises test n (i + 1))

kept_below : (test : ℕ → Bool) (b : Bool) (i n top : ℕ) → i < top
    → AllByRecursion (λ k. k < top) (filter test (range_with_len (i + 1) n))
    → AllByRecursion (λ k. k < top) (cond b (i ∷ filter test (range_with_len (i + 1) n))
    (filter test (range_with_len (i + 1) n)))
kept_below test true i n top h r = (h, r)
kept_below test false i n top h r = r

pub filtered_below : (test : ℕ → Bool) (n i top : ℕ) → i + n ≤ top
    → AllByRecursion (λ k. k < top) (filter test (range_with_len i n))
filtered_below test zero i top h = tt
filtered_below test (suc n) i top h = kept_below test (test i) i n top (omega arith)
    (filtered_below test n (i + 1) top (omega arith))

higher_start : (low high : ℕ) (is : List ℕ) → low ≤ high → FallsBelow low is → FallsBelow high is
higher_start low high [] h r = tt
higher_start low high (i ∷ is) h r = (omega arith, r.1)

kept_falls : (test : ℕ → Bool) (b : Bool) (n : ℕ) → FallsBelow n (filter test (numbers_down n))
    → FallsBelow (suc n) (cond b (n ∷ filter test (numbers_down n)) (filter test (numbers_down n)))
kept_falls test true n r = (omega arith, r)
kept_falls test false n r = higher_start n (suc n) _ (omega arith) r

pub filtered_falls : (test : ℕ → Bool) (n : ℕ) → FallsBelow n (filter test (numbers_down n))
filtered_falls test zero = tt
filtered_falls test (suc n) = kept_falls test (test n) n (filtered_falls test n)

falling_within : (top high : ℕ) (is : List ℕ) → high ≤ top → FallsBelow high is
    → AllByRecursion (λ k. k < top) is
falling_within top high [] h r = tt
falling_within top high (i ∷ is) h r = (omega arith, falling_within top i is (omega arith) r.1)

-- the list by the step's sign
chosen_within : (len : ℕ) (up down : Bool) (rising falling : List ℕ)
    → AllByRecursion (λ k. k < len) rising → AllByRecursion (λ k. k < len) falling
    → AllByRecursion (λ k. k < len) (cond up rising (cond down falling []))
chosen_within len true down rising falling h g = h
chosen_within len false true rising falling h g = g
chosen_within len false false rising falling h g = tt

pub indexes_within : (b : Bounds) (len : ℕ) → AllByRecursion (λ k. k < len) (slice_indexes b len)
indexes_within b len =
    chosen_within len (int_lt (pos 0) b.step) (int_lt b.step (pos 0)) _ _
    (filtered_below (meets_rising b) len 0 len (omega arith))
    (falling_within len len _ (omega arith) (filtered_falls (meets_falling b) len))

pub indexes_rise : (b : Bounds) (len : ℕ) → IsTrue (int_lt (pos 0) b.step)
    → RisesFrom 0 (slice_indexes b len)
indexes_rise b len h = rw h (filtered_rises (meets_rising b) len 0)

falls_by : (z : ℤ) (len : ℕ) (rising falling : List ℕ) → int_lt z (pos 0) ≡ true → FallsBelow len falling
    → FallsBelow len (cond (int_lt (pos 0) z) rising (cond (int_lt z (pos 0)) falling []))
falls_by (pos n) len rising falling h f = let below : n < 0 = ltb-true n 0 h in absurd (omega arith)
falls_by (negsuc n) len rising falling h f = f

pub indexes_fall : (b : Bounds) (len : ℕ) → IsTrue (int_lt b.step (pos 0))
    → FallsBelow len (slice_indexes b len)
indexes_fall b len h = falls_by b.step len _ _ h (filtered_falls (meets_falling b) len)

step_by : (b : Bool) (x y : Bounds) (z : ℤ) → x.step ≡ z → y.step ≡ z → (cond b x y).step ≡ z
step_by true x y z h g = h
step_by false x y z h g = g

module _ (first past : Option ℤ) (step : ℤ) (len : ℕ) where
  step_kept : (slice_bounds first past (Some step) len).step ≡ step
  step_kept = step_by (int_lt step (pos 0)) (falling_bounds first past step len)
      (rising_bounds first past step len) step refl refl

  pub slice_rises : IsTrue (int_lt (pos 0) step)
      → RisesFrom 0 (slice_indexes (slice_bounds first past (Some step) len) len)
  slice_rises h = indexes_rise (slice_bounds first past (Some step) len) len
      (subst (λ z. IsTrue (int_lt (pos 0) z)) (sym step_kept) h)

  pub slice_falls : IsTrue (int_lt step (pos 0))
      → FallsBelow len (slice_indexes (slice_bounds first past (Some step) len) len)
  slice_falls h = indexes_fall (slice_bounds first past (Some step) len) len
      (subst (λ z. IsTrue (int_lt z (pos 0))) (sym step_kept) h)
