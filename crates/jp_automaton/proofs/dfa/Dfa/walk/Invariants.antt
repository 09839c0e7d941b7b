use Rattle.std.proofs.Common.{◌≡◌, ◌<◌, drop}
use Rattle.jp_automaton.specs.inner.Dfa.{state_behind}
use Rattle.jp_automaton.proofs.dfa.Dfa.walk.Given as goal

-- the bytes that are not read yet lead on from the state, which is not the start again
abbrev pub invariant-loop-i : goal.invariant-loop-i
invariant-loop-i l = record {
  small : l.state < 256;
  away : 0 < l.i → 0 < l.state;
  leads : state_behind l.self.cells.items 0 l.bytes
      ≡ state_behind l.self.cells.items l.state (drop l.i l.bytes);
}
