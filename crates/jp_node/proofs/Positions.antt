-- Numbers that an index or a part of a slice may be.
use Rattle.std.proofs.Common.{◌≡◌, ℕ, Option, Some, None, true, false, refl, arith, ℤ, pos}
use Rattle.std.proofs.Common.{negsuc, ◌-ℤ◌}
use Rattle.std.specs.Prelude.{unwrap_or, neg_ℤ, int_lt}
use Rattle.std.specs.Option.{ForSome}
use Rattle.std.proofs.lemmas.Int.{ints}
use Rattle.jp_node.specs.BoundsView.{IsPosition}
use Rattle.jp_node.specs.Slice.{Bounds, clamped, normalized, slice_bounds}

pub position_or : (o : Option ℤ) (d : ℤ) → ForSome o IsPosition → IsPosition d
    → IsPosition (unwrap_or o d)
position_or None d h k = k
position_or (Some z) d h k = h z refl

minus : (len : ℕ) → pos 0 -ℤ pos len ≡ neg_ℤ (pos len)
minus len = omega (arith, ints)

abbrev made : ℤ → ℤ → ℤ → Bounds
made l u s = record { lower = l; upper = u; step = s }

-- the bounds of a slice, made as the definition says
module _ (start end step : Option ℤ) (len : ℕ) (last s l u : ℤ) (end_is : last ≡ pos len)
    (step_is : s ≡ unwrap_or step (pos 1)) where
  pub falling_is : int_lt s (pos 0) ≡ true
      → l ≡ clamped (negsuc 0) (last -ℤ pos 1) (normalized (unwrap_or end ((pos 0 -ℤ last) -ℤ pos 1)) len)
      → u ≡ clamped (negsuc 0) (last -ℤ pos 1) (normalized (unwrap_or start (last -ℤ pos 1)) len)
      → made l u s ≡ slice_bounds start end step len
  falling_is t p q = rw (p, q, end_is, minus len, ← step_is, t) refl

  pub rising_is : int_lt s (pos 0) ≡ false
      → l ≡ clamped (pos 0) last (normalized (unwrap_or start (pos 0)) len)
      → u ≡ clamped (pos 0) last (normalized (unwrap_or end last) len)
      → made l u s ≡ slice_bounds start end step len
  rising_is t p q = rw (p, q, end_is, ← step_is, t) refl
