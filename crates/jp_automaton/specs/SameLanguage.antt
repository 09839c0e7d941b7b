-- Patterns that are as good as each other.
use Rattle.std.specs.Prelude.{◌≡◌, ◌↔◌}
use Rattle.jp_pattern.specs.Language.{Member}
use Rattle.jp_pattern.specs.Pattern.{Text, Pattern}
use Rattle.jp_pattern.specs.Profile.{IsPatternOf, size}

-- the two have the same unrolled size and the same texts (RFC 9485, 4 and 8)
pub record SameLanguage (p q : Pattern) : Type 0 where
  pub same_size : size p ≡ size q
  pub members : (t : Text) → Member p t ↔ Member q t

-- the text is a pattern of the same language (RFC 9485, 3 and 8)
abbrev pub IsWrittenAs : Text → Pattern → Type 0
IsWrittenAs text q = (p : Pattern) × IsPatternOf text p × SameLanguage p q
