use Rattle.std.proofs.Common.{◌≡◌, drop}
use Rattle.jp_node.specs.Inside.{item_values}
use Rattle.jp_node.proofs.items.Items.skip.Given as goal

abbrev pub invariant-loop-i : goal.invariant-loop-i
invariant-loop-i l = item_values l.left ≡ drop l.i (item_values l.fn.self)
