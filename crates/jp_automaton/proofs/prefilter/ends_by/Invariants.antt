use Rattle.jp_automaton.specs.inner.Prefilter.{EndsNone}
use Rattle.jp_automaton.proofs.prefilter.ends_by.Given as goal

abbrev pub invariant-loop-state : goal.invariant-loop-state
invariant-loop-state l = EndsNone l.dfa.cells.items l.state l.byte
