use Rattle.jp_automaton.specs.inner.Prefilter.{AreTwos}
use Rattle.jp_automaton.proofs.prefilter.pairs_behind_two.Given as goal

abbrev pub invariant-loop-pair : goal.invariant-loop-pair
invariant-loop-pair l = AreTwos l.dfa.cells.items l.ones l.pairs.items l.pair-index
