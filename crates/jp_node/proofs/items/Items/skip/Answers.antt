use Rattle.std.proofs.Common.{◌∙◌, sym, arith}
use Rattle.jp_node.specs.Inside.{item_values}
use Rattle.jp_node.proofs.Lists.{drop_more, drop_enough}
use Rattle.jp_node.proofs.items.Items.skip.Goals as goal

pub returns-in-None : goal.returns-in-None
returns-in-None c = c.in-None.ensures ∙ sym (drop_enough (item_values c.args.self) c.loop-i.i c.args.count
    (sym c.loop-i.invariant ∙ c.in-None.ensures) (omega arith))

pub loop-i-preserved : goal.loop-i-preserved
loop-i-preserved c = sym (drop_more (item_values c.args.self) _ _ c.loop-i.i
    (sym c.loop-i.invariant ∙ c.in-Some.ensures))
