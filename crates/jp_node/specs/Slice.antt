-- Slices (RFC 9535, 2.3.4).
use Rattle.std.specs.Prelude.{ℕ, zero, suc, ◌+◌, ◌<◌, ◌≤◌, ⊤, Bool, ◌&&◌, ℤ, pos, negsuc, ◌+ℤ◌, ◌-ℤ◌, neg_ℤ}
use Rattle.std.specs.Prelude.{int_lt, int_le, int_rem, List, [], ◌∷◌, Option, unwrap_or, if◌then◌else◌}
use Rattle.std.specs.Ordering.{int_eq}
use Rattle.std.specs.List.{filter, range_with_len}

pub record Bounds : Type 0 where
  pub lower : ℤ
  pub upper : ℤ
  pub step : ℤ

-- a negative number counts from the end
abbrev pub normalized : ℤ → ℕ → ℤ
normalized z len = if int_lt z (pos 0) then pos len +ℤ z else z

-- the number of the range that is nearest to z
abbrev pub clamped : ℤ → ℤ → ℤ → ℤ
clamped low high z = if int_lt z low then low else if int_lt high z then high else z

-- the bounds for a step of 0 or more, and for a negative one
abbrev pub rising_bounds : Option ℤ → Option ℤ → ℤ → ℕ → Bounds
rising_bounds start end step len = record {
  lower = clamped (pos 0) (pos len) (normalized (unwrap_or start (pos 0)) len);
  upper = clamped (pos 0) (pos len) (normalized (unwrap_or end (pos len)) len);
  step = step;
}

abbrev pub falling_bounds : Option ℤ → Option ℤ → ℤ → ℕ → Bounds
falling_bounds start end step len = record {
  lower = clamped (negsuc 0) (pos len -ℤ pos 1) (normalized (unwrap_or end (neg_ℤ (pos len) -ℤ pos 1)) len);
  upper = clamped (negsuc 0) (pos len -ℤ pos 1) (normalized (unwrap_or start (pos len -ℤ pos 1)) len);
  step = step;
}

abbrev pub bounds_by_step : Option ℤ → Option ℤ → ℤ → ℕ → Bounds
bounds_by_step start end step len = if int_lt step (pos 0) then falling_bounds start end step len else
    rising_bounds start end step len

-- the bounds of a slice of an array with len items
abbrev pub slice_bounds : Option ℤ → Option ℤ → Option ℤ → ℕ → Bounds
slice_bounds start end step len = bounds_by_step start end (unwrap_or step (pos 1)) len

abbrev pub is_multiple : ℤ → ℤ → Bool
is_multiple z step = int_eq (int_rem z step) (pos 0)

-- the index is from lower up to upper, which is left out, and some steps from lower
abbrev pub meets_rising : Bounds → ℕ → Bool
meets_rising b i = int_le b.lower (pos i) && int_lt (pos i) b.upper && is_multiple (pos i -ℤ b.lower) b.step

-- the index is from upper down to lower, which is left out, and some steps from upper
abbrev pub meets_falling : Bounds → ℕ → Bool
meets_falling b i = int_lt b.lower (pos i) && int_le (pos i) b.upper && is_multiple (b.upper -ℤ pos i) b.step

-- the numbers below n, in rising order
abbrev pub numbers_below : ℕ → List ℕ
numbers_below n = range_with_len 0 n

-- the same, in falling order
abbrev pub numbers_down : ℕ → List ℕ
numbers_down zero = []
numbers_down (suc n) = n ∷ numbers_down n

-- all indexes that meet the condition: rising for a positive step, falling for a negative one, none for the
-- step 0
abbrev pub slice_indexes : Bounds → ℕ → List ℕ
slice_indexes b len =
    if int_lt (pos 0) b.step then filter (meets_rising b) (numbers_below len)
    else if int_lt b.step (pos 0) then filter (meets_falling b) (numbers_down len)
    else []

-- each number is above the one before it and none is below low; each is below the one before it and below
-- high
abbrev pub RisesFrom : ℕ → List ℕ → Type 0
RisesFrom low [] = ⊤
RisesFrom low (i ∷ is) = (low ≤ i) × RisesFrom (i + 1) is

abbrev pub FallsBelow : ℕ → List ℕ → Type 0
FallsBelow high [] = ⊤
FallsBelow high (i ∷ is) = (i < high) × FallsBelow i is
