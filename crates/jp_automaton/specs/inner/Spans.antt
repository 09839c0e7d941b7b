-- A working file, which nobody has to believe: ranges of characters that are found by halves. No public
-- contract names it.
use Rattle.std.specs.Prelude.{◌≡◌, ℕ, ◌||◌, Bool, List, [], ◌∷◌, map, max}
use Rattle.std.specs.List.{list_any}
use Rattle.jp_automaton.specs.Letters.{span_element}
use Rattle.jp_automaton.specs.declared.ranges.Span.{Span}
use Rattle.jp_pattern.specs.CharSets.{in_element, in_set}
use Rattle.jp_pattern.specs.Pattern.{CharSet}
use Rattle.jp_pattern.specs.Tree.{element_of}
use Rattle.jp_pattern.specs.declared.tree.Element.{Element as HeldElement}

-- each with the greatest last character up to it, of the range and those before it
abbrev pub widen : ℕ → List Span → List Span
widen most [] = []
widen most (s ∷ spans) =
    record { low = s.low; high = max most s.high } ∷ widen (max most s.high) spans

-- some range, or some other element, has the character
abbrev pub in_parts : ℕ → List Span → List HeldElement → Bool
in_parts c spans others = list_any (in_element c) (map span_element spans)
    || list_any (in_element c) (map element_of others)

-- the elements hold the same characters as these parts
pub record HasParts (elements : List HeldElement) (spans : List Span) (others : List HeldElement)
    : Type 0 where
  pub each : (c : ℕ) → list_any (in_element c) (map element_of elements) ≡ in_parts c spans others

-- the two hold the same characters
abbrev pub SameSet : CharSet → CharSet → Type 0
SameSet p q = (c : ℕ) → in_set p c ≡ in_set q c
