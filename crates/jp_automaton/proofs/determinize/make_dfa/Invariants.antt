use Rattle.std.proofs.Common.{◌≡◌, ◌*◌, ◌≤◌, length}
use Rattle.jp_automaton.specs.Expressions.{unrolled_in}
use Rattle.jp_automaton.specs.inner.Dfa.{IsDfaOf}
use Rattle.jp_automaton.proofs.determinize.make_dfa.Given as goal

abbrev pub invariant-loop-i : goal.invariant-loop-i
invariant-loop-i l = record {
  known : l.i ≤ length l.states.items;
  next : length l.cells.items ≡ l.i * 256;
  dfa : IsDfaOf (unrolled_in l.input.root.now) l.input.unanchored l.states.items l.cells.items;
}
