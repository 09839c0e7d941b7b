use Rattle.std.proofs.Common.{◌≡◌, length}
use Rattle.jp_automaton.specs.inner.Equivalence.{AreFirst}
use Rattle.jp_automaton.specs.Expressions.{unrolled_in}
use Rattle.jp_automaton.proofs.byte_classes.make_byte_classes.Given as goal

abbrev pub invariant-loop-code : goal.invariant-loop-code
invariant-loop-code l = record {
  many : length l.first.items ≡ l.code;
  right : AreFirst (unrolled_in l.root) l.first.items;
}
