use Rattle.std.proofs.Common.{arith}
use Rattle.jp_node.specs.Members.{range_entries}
use Rattle.jp_value.proofs.OrderedValues.{unequally_named}
use Rattle.jp_value.proofs.ordered.+same_ordered.Goals as goal

pub same_side_by_side-returns-then-len-values : goal.same_side_by_side-returns-then-len-values
same_side_by_side-returns-then-len-values t c =
    unequally_named (range_entries c.args.left) (range_entries c.args.names) c.args.values.now
    (λ is. grind (arith, c.len.ensures, c.len-2.ensures, is, c.if-len.true))
    (grind (arith, c.len-then-len.ensures, c.if-len-values.true))
