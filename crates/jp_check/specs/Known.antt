-- Patterns that were read, and what is known of a text.
use Rattle.std.specs.Prelude.{List, map, Contains}
use Rattle.jp_tree.specs.Tree.{Text}
use Rattle.jp_tree.specs.View.{text_of}
use Rattle.jp_pattern.specs.Pattern.{Pattern}
use Rattle.jp_pattern.specs.Profile.{IsPatternOf}
use Rattle.jp_automaton.specs.Held.{pattern_of}
use Rattle.jp_automaton.specs.SameLanguage.{IsWrittenAs}
use Rattle.jp_compiled.specs.declared.known.KnownPattern.{KnownPattern}
use Rattle.jp_check.specs.declared.known.Known.{Known}
use Rattle.jp_check.specs.declared.known.Known.TheVariants.{Read, NoPattern, Unknown}

-- the texts that were read
abbrev pub known_texts : List KnownPattern → List Text
known_texts ks = map (λ (k : KnownPattern). text_of k.text) ks

-- What is told of a text where these texts were read: of one of them a pattern of its language (RFC 9485), or
-- that it is none; of every other text that it is unknown.
abbrev pub Tells : List Text → Text → Known → Type 0
Tells texts t (Read p) = Contains texts t × IsWrittenAs t (pattern_of p.now)
Tells texts t NoPattern = Contains texts t × ((p : Pattern) → IsPatternOf t p → ⊥)
Tells texts t Unknown = Contains texts t → ⊥
