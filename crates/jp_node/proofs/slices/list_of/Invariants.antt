use Rattle.std.proofs.Common.{◌≡◌, ◌++◌, ◌-◌, take, map}
use Rattle.jp_node.specs.Inside.{item_values}
use Rattle.jp_node.specs.Part.{part_value}
use Rattle.jp_node.proofs.slices.list_of.Given as goal

abbrev pub invariant-loop-i : goal.invariant-loop-i
invariant-loop-i l =
    map part_value l.list.items ++ take (l.count - l.i) (item_values l.left)
    ≡ take l.count (item_values l.fn.items)
