use Rattle.std.proofs.Common.{◌≡◌, length}
use Rattle.jp_automaton.specs.inner.Dfa.{state_behind}
use Rattle.jp_automaton.proofs.dfa.Dfa.behind_prefiltered.Given as goal

-- what is left leads from the start to the same number
abbrev pub invariant-loop-rest : goal.invariant-loop-rest
invariant-loop-rest l =
    state_behind l.self.cells.items 0 l.bytes ≡ state_behind l.self.cells.items 0 l.rest

abbrev pub decreases-loop-rest : goal.decreases-loop-rest
decreases-loop-rest l = length l.rest
