use Rattle.jp_automaton.specs.inner.Spans.{widen}
use Rattle.jp_automaton.proofs.SpanLemmas.{widen_turn}
use Rattle.jp_automaton.proofs.classes.widened.Goals as goal

pub loop-span-preserved : goal.loop-span-preserved
loop-span-preserved c =
    widen_turn c.loop-span.made.items c.push.new.self.items c.args.spans.now (widen 0 c.args.spans.now)
    c.loop-span.span-index c.loop-span.most c.later-most.result _ _ c.loop-span-test.true
    c.later-most.ensures c.in_ok-push.ensures.items c.loop-span.invariant
