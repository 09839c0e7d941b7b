use Rattle.std.proofs.Common.{◌≤◌, length, drop, ◌∙◌, arith}
use Rattle.std.proofs.lemmas.Grind.{common_steps}
use Rattle.jp_automaton.proofs.BytesLemmas.{stuck}
use Rattle.jp_automaton.proofs.dfa.Dfa.walk.Goals as goal

pub returns-then-index-len-clause-stays : goal.returns-then-index-len-clause-stays
returns-then-index-len-clause-stays c = λ some.
    let dfa = c.args.self.now in
    let count = length dfa.states.items in
    let past : count ≤ c.loop-i.state = omega (arith, c.requires.full, c.type_inv.bytes c.loop-i.i) in
    c.loop-i.invariant.leads
    ∙ stuck dfa.cells.items count c.requires.full c.loop-i.state past (drop c.loop-i.i c.args.bytes.now)

pub loop-i-preserved : goal.loop-i-preserved
loop-i-preserved c = grind (arith, common_steps)

pub returns-then-state-eq0-clause-back : goal.returns-then-state-eq0-clause-back
returns-then-state-eq0-clause-back c = grind (arith, common_steps)

pub returns-clause-stays : goal.returns-clause-stays
returns-clause-stays c = grind (arith, common_steps)
