use Rattle.jp_automaton.specs.inner.ByteSets.{AreInSets}
use Rattle.jp_automaton.proofs.beginnings.Beginnings.flagged.Given as goal

abbrev pub invariant-loop-byte : goal.invariant-loop-byte
invariant-loop-byte l = AreInSets l.sets l.flags l.byte
