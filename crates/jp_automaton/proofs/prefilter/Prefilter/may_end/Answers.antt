use Rattle.jp_automaton.proofs.EndingLemmas.{none_found}
use Rattle.jp_automaton.proofs.prefilter.Prefilter.may_end.Goals as goal

pub returns-in-Some : goal.returns-in-Some
returns-in-Some c = λ cells of none.
    none_found cells _ (of.each c.in-Some.set c.in-Some.is) c.args.bytes.now c.type_inv.bytes
    (c.has_any.ensures none)
