use Rattle.std.proofs.Common.{◌≡◌, ◌+◌, ◌*◌, ◌<◌, ◌≤◌, length}
use Rattle.jp_automaton.specs.Expressions.{unrolled_in}
use Rattle.jp_automaton.specs.inner.Dfa.{IsDfaOf}
use Rattle.jp_automaton.proofs.determinize.add_row.Given as goal

abbrev pub invariant-loop-column : goal.invariant-loop-column
invariant-loop-column l = record {
  known : l.from < length l.states.items;
  longer : length l.initial.states.items ≤ length l.states.items;
  next : length l.cells.items ≡ l.from * 256 + l.column;
  dfa : IsDfaOf (unrolled_in l.input.root.now) l.input.unanchored l.states.items l.cells.items;
}
