use Rattle.std.proofs.Common.{◌≡◌, ◌<◌, drop}
use Rattle.jp_automaton.specs.inner.Dfa.{state_behind}
use Rattle.jp_automaton.proofs.dfa.Dfa.behind.Given as goal

-- the bytes that are not read yet lead on from the state
abbrev pub invariant-loop-byte : goal.invariant-loop-byte
invariant-loop-byte l = record {
  small : l.state < 256;
  leads : state_behind l.self.cells.items 0 l.bytes
      ≡ state_behind l.self.cells.items l.state (drop l.byte-index l.bytes);
}
