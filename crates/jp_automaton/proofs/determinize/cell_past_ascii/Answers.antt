use Rattle.std.proofs.Common.{arith}
use Rattle.jp_automaton.specs.Expressions.{unrolled_in}
use Rattle.jp_automaton.proofs.ProfileLemmas.{kept_classes}
use Rattle.jp_automaton.proofs.StateLemmas.{cell_past}
use Rattle.jp_automaton.proofs.determinize.cell_past_ascii.Goals as goal

pub returns-in_ok-cell_of-clause-cell : goal.returns-in_ok-cell_of-clause-cell
returns-in_ok-cell_of-clause-cell c =
    let input = c.args.input in
    let p = unrolled_in input.root.now in
    cell_past p input.unanchored c.cell_of.new.states.items c.args.from c.in_ok-cell_of.field-0
    192 (omega arith)
    ((kept_classes p input.classes.now input.equivalent).others c.if-input.true)
    c.in_ok-cell_of.ensures.cell
