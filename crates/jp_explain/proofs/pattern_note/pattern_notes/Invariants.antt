use Rattle.std.proofs.Common.{take}
use Rattle.jp_check.specs.Known.{known_texts}
use Rattle.jp_explain.specs.PatternNotes.{AreNotes}
use Rattle.jp_explain.proofs.pattern_note.pattern_notes.Given as goal

abbrev pub invariant-loop-known : goal.invariant-loop-known
invariant-loop-known l = AreNotes (take l.known-index (known_texts l.patterns)) l.notes.items
