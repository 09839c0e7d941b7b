use Rattle.std.proofs.Common.{◌≡◌, ℕ, ◌<◌, slice_index_or}
use Rattle.jp_automaton.specs.declared.prefilter.Pair.{Pair}
use Rattle.jp_automaton.specs.inner.Dfa.{state_after}
use Rattle.jp_automaton.proofs.prefilter.tells_apart.Given as goal

abbrev pub invariant-loop-pair : goal.invariant-loop-pair
invariant-loop-pair l =
    (k : ℕ) (d : Pair) → k < l.pair-index →
    state_after l.dfa.cells.items (slice_index_or l.pairs k d).all l.byte
    ≡ state_after l.dfa.cells.items (slice_index_or l.pairs k d).later l.byte
