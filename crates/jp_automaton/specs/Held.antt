-- The pattern that a value of the code holds.
use Rattle.std.specs.Prelude.{Option, Some, None}
use Rattle.jp_automaton.specs.declared.pattern.Pattern.{Pattern as HeldPattern}
use Rattle.jp_pattern.specs.Pattern.{Text, Pattern}
use Rattle.jp_pattern.specs.Profile.{IsPatternOf}
use Rattle.jp_automaton.specs.Expressions.{pattern_in}
use Rattle.jp_automaton.specs.SameLanguage.{IsWrittenAs}

-- the pattern that was read, or one of the same language (RFC 9485, 3)
abbrev pub pattern_of : HeldPattern → Pattern
pattern_of p = pattern_in p.root

-- a pattern of its language where the text is one, and None only where it is none (RFC 9485, 3 and 8)
abbrev pub IsRead : Text → Option HeldPattern → Type 0
IsRead text None = (p : Pattern) → IsPatternOf text p → ⊥
IsRead text (Some held) = IsWrittenAs text (pattern_of held)
