use Rattle.std.proofs.Common.{◌≡◌, ◌↔◌}
use Rattle.std.specs.Str.{chars}
use Rattle.jp_automaton.specs.Held.{pattern_of}
use Rattle.jp_pattern.specs.Pattern.{Text}
use Rattle.jp_automaton.specs.Terms.{IsLeft, pattern_read_by}
use Rattle.jp_automaton.proofs.FindLemmas.{BeganIn, NoPartIn, IsReading}
use Rattle.jp_automaton.proofs.pattern.Pattern.found_by_positions.Given as goal

-- what is left is what completes a text that began somewhere in what was read, and nothing was complete
-- before
abbrev pub invariant-loop-c : goal.invariant-loop-c
invariant-loop-c l =
    (pattern_read_by l.terms ≡ pattern_of l.self)
    × ((u : Text) → IsLeft l.terms u ↔ BeganIn (pattern_of l.self) l.yielded u)
    × NoPartIn (pattern_of l.self) l.yielded
    × IsReading (chars l.text) l.yielded l.c-iterator
