-- The bounds of a slice lie within the array.
use Rattle.std.proofs.Common.{◌≡◌, ℕ, true, false, Option, Some, arith}
use Rattle.std.specs.Prelude.{ℤ, pos, negsuc, neg_ℤ, unwrap_or, ◌-ℤ◌, ◌≤ℤ◌, ◌<ℤ◌, int_lt}
use Rattle.std.proofs.lemmas.Int.{ints}
use Rattle.jp_node.specs.Slice.{clamped, normalized, slice_bounds, falling_bounds}

pub clamped_low : (low high z : ℤ) → low ≤ℤ high → low ≤ℤ clamped low high z
clamped_low low high z h = grind (arith, ints)

pub clamped_high : (low high z : ℤ) → low ≤ℤ high → clamped low high z ≤ℤ high
clamped_high low high z h = grind (arith, ints)

pub from_zero : (len : ℕ) → pos 0 ≤ℤ pos len
from_zero len = omega (arith, ints)

pub from_minus_one : (len : ℕ) → negsuc 0 ≤ℤ (pos len -ℤ pos 1)
from_minus_one len = omega (arith, ints)

pub below_len : (z : ℤ) (len : ℕ) → z ≤ℤ (pos len -ℤ pos 1) → z <ℤ pos len
below_len z len h = omega (arith, ints)

module _ (first past : Option ℤ) (step : ℤ) (len : ℕ) where
  pub bounds_of_rising : int_lt step (pos 0) ≡ false
      → (pos 0 ≤ℤ (slice_bounds first past (Some step) len).lower)
      × ((slice_bounds first past (Some step) len).upper ≤ℤ pos len)
  bounds_of_rising h = rw h (
    clamped_low (pos 0) (pos len) (normalized (unwrap_or first (pos 0)) len) (from_zero len),
    clamped_high (pos 0) (pos len) (normalized (unwrap_or past (pos len)) len) (from_zero len),
  )

  pub bounds_of_falling : int_lt step (pos 0) ≡ true
      → (negsuc 0 ≤ℤ (slice_bounds first past (Some step) len).lower)
      × ((slice_bounds first past (Some step) len).upper <ℤ pos len)
  bounds_of_falling h = rw h (
    clamped_low (negsuc 0) (pos len -ℤ pos 1) (normalized (unwrap_or past (neg_ℤ (pos len) -ℤ pos 1)) len)
        (from_minus_one len),
    below_len (falling_bounds first past step len).upper len (clamped_high (negsuc 0) (pos len -ℤ pos 1)
        (normalized (unwrap_or first (pos len -ℤ pos 1)) len) (from_minus_one len)),
  )
