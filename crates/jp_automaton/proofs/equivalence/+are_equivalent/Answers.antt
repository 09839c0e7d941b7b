use Rattle.std.proofs.Common.{arith}
use Rattle.std.proofs.lemmas.Grind.{common_steps}
use Rattle.jp_automaton.proofs.EquivalenceLemmas.{equivalent_branches, equivalent_copies, equivalent_pieces}
use Rattle.jp_automaton.proofs.equivalence.+are_equivalent.Goals as goal

pub are_equivalent-returns-in-Pieces : goal.are_equivalent-returns-in-Pieces
are_equivalent-returns-in-Pieces t c = λ h.
    equivalent_pieces c.args.candidate c.args.expression.now c.in-Pieces.size c.in-Pieces.pieces
    c.deref-in-Pieces.result.now c.in-Pieces.is
    c.deref-in-Pieces.ensures.value (c.are_equivalent_in_all.ensures h)

pub are_equivalent-returns-then-are_equivalent_in_all : goal.are_equivalent-returns-then-are_equivalent_in_all
are_equivalent-returns-then-are_equivalent_in_all t c = λ h.
    equivalent_branches c.args.candidate c.args.expression.now c.in-Branches.size c.in-Branches.before
    c.in-Branches.last
    c.deref-in-Branches.result.now
    c.deref-then-are_equivalent_in_all.result.now c.in-Branches.is c.deref-in-Branches.ensures.value
    c.deref-then-are_equivalent_in_all.ensures
    (c.are_equivalent_in_all-in-Branches.ensures c.if-are_equivalent_in_all.true)
    (c.are_equivalent-then-are_equivalent_in_all.ensures h)

pub are_equivalent-returns-in-Repeat : goal.are_equivalent-returns-in-Repeat
are_equivalent-returns-in-Repeat t c = λ h.
    equivalent_copies c.args.candidate c.args.expression.now c.in-Repeat.size c.in-Repeat.least
    c.in-Repeat.most
    c.in-Repeat.atom
    c.deref-in-Repeat.result.now c.in-Repeat.is c.deref-in-Repeat.ensures
    (c.are_equivalent-in-Repeat.ensures h)

pub are_equivalent_in_all-loop-expression-preserved : goal.are_equivalent_in_all-loop-expression-preserved
are_equivalent_in_all-loop-expression-preserved c = grind (arith, common_steps)
