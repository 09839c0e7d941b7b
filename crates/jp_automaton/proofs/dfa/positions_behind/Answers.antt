use Rattle.std.proofs.Common.{ap}
use Rattle.jp_automaton.specs.Expressions.{unrolled_in}
use Rattle.jp_automaton.proofs.StateLemmas.{reads_rises}
use Rattle.jp_automaton.proofs.dfa.positions_behind.Goals as goal

pub returns-clause-rises : goal.returns-clause-rises
returns-clause-rises c =
    reads_rises (unrolled_in c.args.root.now) c.args.c c.deref.result.now c.new-next.result.items
    c.step.new.out.items c.start.result
    c.new-next.ensures.items (ap (λ r. r.past) c.start.ensures) c.in_ok-step.ensures.reads
