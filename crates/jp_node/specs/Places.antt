-- The indexes of a slice, one after another.
use Rattle.std.specs.Prelude.{ℕ, ◌+◌, ◌-◌, pos, negsuc, int_lt, ◌≤ℤ◌, ◌+ℤ◌, List, [], ◌∷◌, Option}
use Rattle.std.specs.Prelude.{Some, None, IfSome, IsTrue, if◌then◌else◌}
use Rattle.std.specs.List.{filter, range_with_len}
use Rattle.jp_node.specs.Slice.{Bounds, meets_rising, meets_falling, numbers_down}
use Rattle.jp_node.specs.BoundsView.{IsPosition}

-- The greatest place that the code can name: it keeps the place of an item in 32 bits. No array has so many
-- items: no line has so many bytes.
abbrev pub max_place : ℕ
max_place = 4294967295

-- the indexes of a slice that come behind this one
abbrev pub later : Bounds → ℕ → ℕ → List ℕ
later b len i =
    if int_lt (pos 0) b.step then filter (meets_rising b) (range_with_len (i + 1) (len - (i + 1)))
    else if int_lt b.step (pos 0) then filter (meets_falling b) (numbers_down i)
    else []

-- this index, and those behind it
abbrev pub from_place : Bounds → ℕ → Option ℕ → List ℕ
from_place b len None = []
from_place b len (Some i) = i ∷ later b len i

-- the bounds are those of a slice of an array with at most so many items
pub record AreWithin (b : Bounds) (len : ℕ) : Type 0 where
  pub lower : negsuc 0 ≤ℤ b.lower
  pub lower_of_rising : pos 0 ≤ℤ b.step → pos 0 ≤ℤ b.lower
  pub upper : b.upper ≤ℤ pos len
  pub upper_of_falling : b.step ≤ℤ negsuc 0 → (b.upper +ℤ pos 1) ≤ℤ pos len
  pub step : IsPosition b.step

-- the index is one of the slice
pub record IsPlace (b : Bounds) (i : ℕ) : Type 0 where
  pub rising : IsTrue (int_lt (pos 0) b.step) → IsTrue (meets_rising b i)
  pub falling : IsTrue (int_lt b.step (pos 0)) → IsTrue (meets_falling b i)

abbrev pub IfPlace : Bounds → Option ℕ → Type 0
IfPlace b next = IfSome next (IsPlace b)
