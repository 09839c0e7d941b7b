use Rattle.std.proofs.Common.{arith, ap, ◌∙◌, sym}
use Rattle.std.proofs.lemmas.Grind.{common_steps}
use Rattle.jp_automaton.specs.Expressions.{unrolled_in}
use Rattle.jp_automaton.specs.inner.Simulation.{is_elem, exits}
use Rattle.jp_automaton.proofs.StateLemmas.{grows_more, state_with}
use Rattle.jp_automaton.proofs.determinize.cell_of.Goals as goal

pub returns-clause-grows : goal.returns-clause-grows
returns-clause-grows c =
    let p = unrolled_in c.args.input.root.now in
    let made = c.state_of-state.ensures in
    let active = c.in_ok-next.next.items in
    grows_more p c.args.states.now.items c.push.new.self.items c.state_of-state.result (omega arith)
    c.requires.states
    (state_with p c.state_of-state.result active c.in_ok-next.ensures.rises made.active
    (made.accepts ∙ ap (λ b. exits (is_elem active) p 0 b) (sym made.at_start)))
    (c.is_match_or_dead.ensures.no_match c.if-is_match_or_dead.false) c.in_ok-push.ensures.items

pub returns-clause-cell : goal.returns-clause-cell
returns-clause-cell c = grind (arith, common_steps)

pub returns-in-Some-clause-cell : goal.returns-in-Some-clause-cell
returns-in-Some-clause-cell c = grind (arith, common_steps)

pub returns-then-is_match_or_dead-clause-cell : goal.returns-then-is_match_or_dead-clause-cell
returns-then-is_match_or_dead-clause-cell c = grind (arith, common_steps)
