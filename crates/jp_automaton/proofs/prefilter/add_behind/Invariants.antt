use Rattle.jp_automaton.specs.inner.Prefilter.{HaveBehind, KeepsPairs}
use Rattle.jp_automaton.proofs.prefilter.add_behind.Given as goal

abbrev pub invariant-loop-byte : goal.invariant-loop-byte
invariant-loop-byte l = record {
  has : HaveBehind l.dfa.cells.items l.pairs.items l.pair l.byte;
  keeps : KeepsPairs l.initial.pairs.items l.pairs.items;
}
