-- The bounds of a slice lie within the array, and so within a longer one.
use Rattle.std.proofs.Common.{◌≡◌, ℕ, ◌≤◌, ◌<◌, Bool, true, false, Option, refl, arith}
use Rattle.std.specs.Prelude.{ℤ, pos, negsuc, neg_ℤ, ◌+ℤ◌, ◌-ℤ◌, ◌≤ℤ◌, int_lt, unwrap_or}
use Rattle.std.specs.Option.{ForSome}
use Rattle.std.proofs.lemmas.Int.{ints}
use Rattle.jp_node.specs.BoundsView.{IsPosition}
use Rattle.jp_node.specs.Places.{AreWithin}
use Rattle.jp_node.specs.Slice.{Bounds, normalized, slice_bounds, bounds_by_step, falling_bounds}
use Rattle.jp_node.proofs.BoundsLaws.{clamped_low, clamped_high, from_zero, from_minus_one}
use Rattle.jp_node.proofs.Positions.{position_or}

step_within : (o : Option ℤ) → ForSome o IsPosition → IsPosition (unwrap_or o (pos 1))
step_within o h = position_or o (pos 1) h (record {
  least = omega (arith, ints);
  greatest =
      omega (arith, ints);
})

minus_one_below : (z : ℤ) → pos 0 ≤ℤ z → negsuc 0 ≤ℤ z
minus_one_below z h = omega (arith, ints)

not_down : (z : ℤ) → int_lt z (pos 0) ≡ false → z ≤ℤ negsuc 0 → ⊥
not_down (pos n) t h = absurd (omega (arith, ints))
not_down (negsuc n) t h = absurd cc

not_up : (z : ℤ) → int_lt z (pos 0) ≡ true → pos 0 ≤ℤ z → ⊥
not_up (pos n) t h = let below : n < 0 = grind (arith, ints) in absurd (omega (arith, below))
not_up (negsuc n) t h = absurd (omega (arith, ints))

one_more : (z : ℤ) (len : ℕ) → z ≤ℤ (pos len -ℤ pos 1) → (z +ℤ pos 1) ≤ℤ pos len
one_more z len h = omega (arith, ints)

no_more : (z : ℤ) (len : ℕ) → z ≤ℤ (pos len -ℤ pos 1) → z ≤ℤ pos len
no_more z len h = omega (arith, ints)

within_by : (first past : Option ℤ) (s : ℤ) (len : ℕ) (b : Bool) → int_lt s (pos 0) ≡ b → IsPosition s
    → AreWithin (bounds_by_step first past s len) len
within_by first past s len false t h =
    let low = clamped_low (pos 0) (pos len) (normalized (unwrap_or first (pos 0)) len) (from_zero len) in
    let high = clamped_high (pos 0) (pos len) (normalized (unwrap_or past (pos len)) len)
    (from_zero len) in
    rw t (record {
      lower = minus_one_below _ low;
      lower_of_rising = λ _. low;
      upper = high;
      upper_of_falling = λ down. absurd (not_down s t down);
      step = h;
    })
within_by first past s len true t h =
    let low = clamped_low (negsuc 0) (pos len -ℤ pos 1)
    (normalized (unwrap_or past (neg_ℤ (pos len) -ℤ pos 1)) len) (from_minus_one len) in
    let high = clamped_high (negsuc 0) (pos len -ℤ pos 1) (normalized (unwrap_or first (pos len -ℤ pos 1))
    len) (from_minus_one len) in
    rw t (record {
      lower = low;
      lower_of_rising = λ up. absurd (not_up s t up);
      upper = no_more (falling_bounds first past s len).upper len high;
      upper_of_falling = λ _. one_more (falling_bounds first past s len).upper len high;
      step = h;
    })

pub are_within : (first past step : Option ℤ) (len : ℕ) → ForSome step IsPosition
    → AreWithin (slice_bounds first past step len) len
are_within first past step len h = within_by first past (unwrap_or step (pos 1)) len
    (int_lt (unwrap_or step (pos 1)) (pos 0)) refl (step_within step h)

pub within_more : (b : Bounds) (n m : ℕ) → n ≤ m → AreWithin b n → AreWithin b m
within_more b n m h w = record {
  lower = w.lower;
  lower_of_rising = w.lower_of_rising;
  upper = let u = w.upper in omega (arith, ints);
  upper_of_falling = λ f. let u = w.upper_of_falling f in omega (arith, ints);
  step = w.step;
}
