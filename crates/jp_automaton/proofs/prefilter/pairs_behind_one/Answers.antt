use Rattle.std.proofs.Common.{below_more, subst}
use Rattle.jp_automaton.specs.inner.Prefilter.{HasPair}
use Rattle.jp_automaton.specs.inner.Dfa.{state_after}
use Rattle.jp_automaton.proofs.prefilter.pairs_behind_one.Goals as goal

pub loop-byte-preserved : goal.loop-byte-preserved
loop-byte-preserved c =
    let cells = c.args.dfa.now.cells.items in
    let pairs = c.add_pair.new.pairs.items in
    let made = c.in_ok-add_pair.ensures in
    below_more (λ a. HasPair pairs (state_after cells 0 a) 0) c.loop-byte.byte
    (λ a lt. made.keeps.keeps (state_after cells 0 a) 0 (c.loop-byte.invariant a lt))
    (subst (λ s. HasPair pairs s 0) c.after.ensures made.has)
