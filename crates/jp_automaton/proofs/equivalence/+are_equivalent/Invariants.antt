use Rattle.std.proofs.Common.{ℕ, ◌<◌, slice_index_or}
use Rattle.jp_automaton.specs.declared.expressions.Expression.{Expression}
use Rattle.jp_automaton.specs.inner.Equivalence.{Equivalent}
use Rattle.jp_automaton.specs.Expressions.{unrolled_in}
use Rattle.jp_automaton.proofs.equivalence.+are_equivalent.Given as goal

abbrev pub invariant-are_equivalent_in_all-loop-expression
    : goal.invariant-are_equivalent_in_all-loop-expression
invariant-are_equivalent_in_all-loop-expression l =
    (k : ℕ) (x : Expression) → k < l.expression-index →
    Equivalent (unrolled_in (slice_index_or l.expressions k x)) l.candidate
