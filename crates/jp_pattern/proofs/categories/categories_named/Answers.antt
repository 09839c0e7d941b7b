use Rattle.std.proofs.Common.{◌∙◌, sym}
use Rattle.jp_pattern.proofs.RowLemmas.{row_found, row_passed}
use Rattle.jp_pattern.proofs.categories.categories_named.Goals as goal

pub returns-then-are_same : goal.returns-then-are_same
returns-then-are_same c =
    row_found (λ row. (row.0.now, row.1.now)) _ c.args.name.now c.loop-known.known-index _
    c.loop-known-test.true
    (sym c.are_same.ensures ∙ c.if-are_same.true) ∙ c.loop-known.invariant

pub loop-known-preserved : goal.loop-known-preserved
loop-known-preserved c =
    row_passed (λ row. (row.0.now, row.1.now)) _ c.args.name.now c.loop-known.known-index _
    c.loop-known-test.true
    (sym c.are_same.ensures ∙ c.if-are_same.false) ∙ c.loop-known.invariant
