use Rattle.jp_automaton.specs.inner.Prefilter.{IsEndings}
use Rattle.jp_automaton.proofs.prefilter.ending_bytes.Given as goal

abbrev pub invariant-loop-byte : goal.invariant-loop-byte
invariant-loop-byte l = IsEndings l.dfa.cells.items l.set l.byte
