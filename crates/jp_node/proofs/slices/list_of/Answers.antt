use Rattle.jp_node.proofs.Slicing.{one_listed}
use Rattle.jp_node.proofs.slices.list_of.Goals as goal

pub loop-i-preserved : goal.loop-i-preserved
loop-i-preserved c = one_listed c.loop-i.list.items c.push.new.self.items c.in-Some.first c.args.count
    c.loop-i.i _ _ _ c.in_ok-push.ensures.items c.loop-i-test.true c.in-Some.ensures c.loop-i.invariant
