use Rattle.std.proofs.Common.{below_more, slice_index_or, subst}
use Rattle.std.proofs.lemmas.List.{get_or_default}
use Rattle.jp_automaton.specs.declared.prefilter.Pair.{Pair}
use Rattle.jp_automaton.specs.inner.Prefilter.{HaveBehind}
use Rattle.jp_automaton.specs.inner.Dfa.{state_after}
use Rattle.jp_automaton.proofs.prefilter.pairs_behind_two.Goals as goal

pub loop-pair-preserved : goal.loop-pair-preserved
loop-pair-preserved c =
    let cells = c.args.dfa.now.cells.items in
    let ones = c.args.ones.now in
    let pairs = c.add_behind.new.pairs.items in
    let made = c.in_ok-add_behind.ensures in
    let i = c.loop-pair.pair-index in
    record {
      each = λ k d lt. below_more (λ n. (d : Pair) → HaveBehind cells pairs (slice_index_or ones n d) 256) i
          (λ n in_old d. record {
            each = λ b small.
                let pair = slice_index_or ones n d in
                made.keeps.keeps (state_after cells pair.all b) (state_after cells pair.later b)
                ((c.loop-pair.invariant.each n d in_old).each b small);
          })
          (λ d. subst (λ x. HaveBehind cells pairs x 256)
          (get_or_default ones i _ d c.loop-pair-test.true) made.has) k lt d;
    }
