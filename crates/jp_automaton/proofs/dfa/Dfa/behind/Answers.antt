use Rattle.std.proofs.Common.{◌≤◌, length, drop, sym, ◌∙◌, arith}
use Rattle.std.proofs.lemmas.Grind.{common_steps}
use Rattle.jp_automaton.proofs.BytesLemmas.{stuck}
use Rattle.jp_automaton.proofs.dfa.Dfa.behind.Goals as goal

pub returns-then-index-len : goal.returns-then-index-len
returns-then-index-len c =
    let dfa = c.args.self.now in
    let count = length dfa.states.items in
    let past : count ≤ c.loop-byte.state =
    omega (arith, c.requires.full, c.type_inv.bytes c.loop-byte.byte-index) in
    sym (c.loop-byte.invariant.leads
    ∙ stuck dfa.cells.items count c.requires.full c.loop-byte.state past
    (drop c.loop-byte.byte-index c.args.bytes.now))

pub returns : goal.returns
returns c = grind (arith, common_steps)

pub loop-byte-preserved : goal.loop-byte-preserved
loop-byte-preserved c = grind (arith, common_steps)
