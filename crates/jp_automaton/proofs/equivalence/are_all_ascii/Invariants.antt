use Rattle.std.proofs.Common.{ℕ, ◌<◌, slice_index_or}
use Rattle.jp_automaton.specs.Letters.{span_element}
use Rattle.jp_automaton.specs.declared.ranges.Span.{Span}
use Rattle.jp_automaton.specs.inner.Equivalence.{IsAscii}
use Rattle.jp_automaton.proofs.equivalence.are_all_ascii.Given as goal

abbrev pub invariant-loop-span : goal.invariant-loop-span
invariant-loop-span l =
    (k : ℕ) (x : Span) → k < l.span-index → IsAscii (span_element (slice_index_or l.spans k x))
