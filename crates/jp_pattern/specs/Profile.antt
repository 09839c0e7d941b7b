-- The limits within which a text that the grammar spells is a pattern.
use Rattle.std.specs.Prelude.{ℕ, ◌+◌, ◌*◌, ◌≤◌, max, Option, Some, None, ⊤}
use Rattle.jp_pattern.specs.Pattern.{Text, Pattern, empty, letter, group, seq, either, repeat, plus}
use Rattle.jp_pattern.specs.Shape.{Shapes}

-- the greatest count in `{n}`, `{n,}` and `{n,m}`, a limit of this implementation (RFC 9485, 8)
abbrev pub max_count : ℕ
max_count = 1_000

-- how many parentheses may stand inside each other, a limit of this implementation (RFC 9485, 8)
abbrev pub max_depth : ℕ
max_depth = 64

-- the greatest unrolled size, a limit of this implementation (RFC 9485, 8)
abbrev pub max_size : ℕ
max_size = 10_000

-- how many parentheses stand inside each other (RFC 9485, 8)
abbrev pub depth : Pattern → ℕ
depth empty = 0
depth (letter set) = 0
depth (group p) = 1 + depth p
depth (seq p q) = max (depth p) (depth q)
depth (either p q) = max (depth p) (depth q)
depth (repeat least most p) = depth p
depth (plus p) = depth p

-- how many copies of its atom a repetition unrolls to: `*` and `?` one, `{n}` n, `{n,m}` m, `{n,}` n+1 (RFC
-- 9485, 8)
abbrev pub copies : ℕ → Option ℕ → ℕ
copies least None = least + 1
copies least (Some most) = most

-- the unrolled size: how many sets of characters there are once each repetition is written out (RFC 9485, 8)
abbrev pub size : Pattern → ℕ
size empty = 0
size (letter set) = 1
size (group p) = size p
size (seq p q) = size p + size q
size (either p q) = size p + size q
size (repeat least most p) = copies least most * size p
size (plus p) = size p

-- the counts of one repetition are no more than the limit, and the least is no more than the most (RFC
-- 9485, 3 and 8)
abbrev pub AreCounts : ℕ → Option ℕ → Type 0
AreCounts least None = least ≤ max_count
AreCounts least (Some most) = (least ≤ most) × (most ≤ max_count)

-- the counts of every repetition are so (RFC 9485, 3 and 8)
abbrev pub HasCounts : Pattern → Type 0
HasCounts empty = ⊤
HasCounts (letter set) = ⊤
HasCounts (group p) = HasCounts p
HasCounts (seq p q) = HasCounts p × HasCounts q
HasCounts (either p q) = HasCounts p × HasCounts q
HasCounts (repeat least most p) = AreCounts least most × HasCounts p
HasCounts (plus p) = HasCounts p

-- the pattern keeps to the limits (RFC 9485, 8)
pub record InProfile (p : Pattern) : Type 0 where
  pub counts : HasCounts p
  pub depth_fits : depth p ≤ max_depth
  pub size_fits : size p ≤ max_size

-- the text is an I-Regexp, and this is its tree; every other text counts as none (RFC 9485, 3 and 8)
pub record IsPatternOf (text : Text) (p : Pattern) : Type 0 where
  pub shapes : Shapes text p
  pub in_profile : InProfile p
