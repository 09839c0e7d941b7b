-- The bounds of a slice, as the definition speaks of them.
use Rattle.std.specs.Prelude.{ℤ, pos, neg_ℤ, ◌≤ℤ◌}
use Rattle.jp_types.specs.Numbers.{max_index}
use Rattle.jp_node.specs.Slice as spec
use Rattle.jp_node.specs.declared.bounds.Bounds.{Bounds}

-- what a `Bounds` of `src/` stands for
abbrev pub bounds_value : Bounds → spec.Bounds
bounds_value b = record { lower = b.lower; upper = b.upper; step = b.step }

-- the number is one that an index or a part of a slice may be
pub record IsPosition (z : ℤ) : Type 0 where
  pub least : neg_ℤ (pos max_index) ≤ℤ z
  pub greatest : z ≤ℤ pos max_index
