use Rattle.std.proofs.Common.{below_more, subst}
use Rattle.jp_automaton.specs.inner.Prefilter.{HasPair}
use Rattle.jp_automaton.specs.inner.Dfa.{state_after}
use Rattle.jp_automaton.proofs.prefilter.add_behind.Goals as goal

pub loop-byte-preserved : goal.loop-byte-preserved
loop-byte-preserved c =
    let cells = c.args.dfa.now.cells.items in
    let pair = c.args.pair in
    let pairs = c.add_pair.new.pairs.items in
    let made = c.in_ok-add_pair.ensures in
    let kept = c.loop-byte.invariant in
    record {
      has = record {
        each = below_more (λ b. HasPair pairs (state_after cells pair.all b) (state_after cells pair.later b))
            c.loop-byte.byte
            (λ b lt. made.keeps.keeps (state_after cells pair.all b) (state_after cells pair.later b)
            (kept.has.each b lt))
            (subst (λ s. HasPair pairs s (state_after cells pair.later c.loop-byte.byte)) c.after.ensures
            (subst (HasPair pairs c.after.result) c.after-in-loop-byte.ensures made.has));
      };
      keeps = record { keeps = λ x y h. made.keeps.keeps x y (kept.keeps.keeps x y h) };
    }
