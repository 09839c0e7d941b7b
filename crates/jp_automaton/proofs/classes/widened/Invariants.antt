use Rattle.std.proofs.Common.{◌≡◌, ◌++◌, drop}
use Rattle.jp_automaton.specs.inner.Spans.{widen}
use Rattle.jp_automaton.proofs.classes.widened.Given as goal

abbrev pub invariant-loop-span : goal.invariant-loop-span
invariant-loop-span l = l.made.items ++ widen l.most (drop l.span-index l.spans) ≡ widen 0 l.spans
