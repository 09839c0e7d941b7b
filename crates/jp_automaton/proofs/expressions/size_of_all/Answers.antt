use Rattle.jp_automaton.proofs.SizedLemmas.{all_sized-at, expression_more}
use Rattle.std.proofs.Common.{◌∙◌}
use Rattle.jp_automaton.proofs.expressions.size_of_all.Goals as goal

pub size-requires : goal.size-requires
size-requires c =
    all_sized-at c.args.expressions.now c.loop-expression.expression-index c.expression-item.result
    c.loop-expression-test.true
    c.expression-item.is c.requires

pub loop-expression-preserved : goal.loop-expression-preserved
loop-expression-preserved c =
    c.saturating_add-total.ensures
    ∙ expression_more c.args.expressions.now c.loop-expression.expression-index c.expression-item.result
    4_294_967_295 c.loop-expression.total
    c.size.result
    c.loop-expression-test.true c.expression-item.is c.loop-expression.invariant c.size.ensures
