use Rattle.jp_automaton.specs.inner.Spans.{HasParts}
use Rattle.jp_automaton.proofs.classes.parts.Given as goal

abbrev pub invariant-loop-element : goal.invariant-loop-element
invariant-loop-element l = HasParts l.yielded l.spans.items l.categories.items
