-- The tree of an I-Regexp.
use Rattle.std.specs.Prelude.{ℕ, Bool, List, Option}
use Rattle.unicode.specs.declared.properties.GeneralCategory.{GeneralCategory}

-- a text, as the list of its Unicode scalar values (RFC 9485, 3)
abbrev pub Text : Type 0
Text = List ℕ

-- what stands in a class between the brackets: `c`, `low-high`, or `\p{..}`, where true says `\P{..}` (RFC
-- 9485, 3)
pub data Element : Type 0 where
  one : ℕ → Element
  range : ℕ → ℕ → Element
  of_category : Bool → List GeneralCategory → Element

-- what stands for one character: `c` or an escape of it, `.`, `\p{..}`, `[..]`, where true says `\P{..}`
-- and `[^..]` (RFC 9485, 3)
pub data CharSet : Type 0 where
  only : ℕ → CharSet
  dot : CharSet
  category : Bool → List GeneralCategory → CharSet
  class : Bool → List Element → CharSet

-- A pattern (RFC 9485, 3). A branch is `empty`, or its first piece followed by the rest of it, `seq`.
-- `either` is its first
-- branch or the others. `repeat` has the least and the most number of parts, if there is a most: `*` is
-- `repeat 0 None`, `?` is
-- `repeat 0 (Some 1)`. `+` stays by itself, since it counts as one copy of its atom and `{1,}` as two.
pub data Pattern : Type 0 where
  empty : Pattern
  letter : CharSet → Pattern
  group : Pattern → Pattern
  seq : Pattern → Pattern → Pattern
  either : Pattern → Pattern → Pattern
  repeat : ℕ → Option ℕ → Pattern → Pattern
  plus : Pattern → Pattern
