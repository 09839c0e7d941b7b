use Rattle.std.proofs.Common.{◌≡◌}
use Rattle.jp_explain.specs.PatternNotes.{last_or}
use Rattle.jp_explain.proofs.pattern_note.last_of.Given as goal

abbrev pub invariant-loop-c : goal.invariant-loop-c
invariant-loop-c l = l.last ≡ last_or 0 l.yielded
