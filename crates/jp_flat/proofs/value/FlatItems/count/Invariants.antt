use Rattle.std.proofs.Common.{◌≡◌, ◌+◌}
use Rattle.jp_flat.specs.Value.{items_value, items_left, item_count}
use Rattle.jp_flat.proofs.value.FlatItems.count.Given as goal

abbrev pub invariant-loop-others : goal.invariant-loop-others
invariant-loop-others l = l.count + item_count (items_value l.left) ≡ item_count (items_value l.fn.self)

abbrev pub decreases-loop-others : goal.decreases-loop-others
decreases-loop-others l = items_left l.left
