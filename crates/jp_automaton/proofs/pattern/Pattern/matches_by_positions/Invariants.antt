use Rattle.std.proofs.Common.{◌≡◌, ◌↔◌, ◌++◌}
use Rattle.std.specs.Str.{chars}
use Rattle.jp_automaton.specs.Held.{pattern_of}
use Rattle.jp_pattern.specs.Language.{Member}
use Rattle.jp_pattern.specs.Pattern.{Text}
use Rattle.jp_automaton.proofs.FindLemmas.{IsReading}
use Rattle.jp_automaton.specs.Terms.{IsLeft, pattern_read_by}
use Rattle.jp_automaton.proofs.pattern.Pattern.matches_by_positions.Given as goal

-- what is left is what completes the text that was read
abbrev pub invariant-loop-c : goal.invariant-loop-c
invariant-loop-c l =
    (pattern_read_by l.terms ≡ pattern_of l.self)
    × ((u : Text) → IsLeft l.terms u ↔ Member (pattern_of l.self) (l.yielded ++ u))
    × IsReading (chars l.text) l.yielded l.c-iterator
