use Rattle.std.proofs.Common.{ℕ, ◌<◌}
use Rattle.jp_automaton.specs.inner.Prefilter.{HasPair}
use Rattle.jp_automaton.specs.inner.Dfa.{state_after}
use Rattle.jp_automaton.proofs.prefilter.pairs_behind_one.Given as goal

abbrev pub invariant-loop-byte : goal.invariant-loop-byte
invariant-loop-byte l =
    (a : ℕ) → a < l.byte → HasPair l.pairs.items (state_after l.dfa.cells.items 0 a) 0
