use Rattle.std.proofs.Common.{◌≡◌, ◌+◌, ◌*◌, ◌≤◌, drop}
use Rattle.jp_doc.specs.Height.{height, items_height, members_height}
use Rattle.jp_doc.specs.Json.{items}
use Rattle.jp_node.specs.Inside.{item_values, kind_value, members_in}
use Rattle.jp_node.specs.Members.{members, range_entries}
use Rattle.jp_value.specs.Comparison.{same_items, same_members}
use Rattle.jp_value.specs.Ordered.{named, ordered_values}
use Rattle.jp_value.proofs.ordered.+same_ordered.Given as goal

-- how high the left value is, then the rank of the function
abbrev pub decreases-same_ordered : goal.decreases-same_ordered
decreases-same_ordered l = 4 * height (kind_value l.left)

abbrev pub decreases-same_ordered_items : goal.decreases-same_ordered_items
decreases-same_ordered_items l = 4 * items_height (items (item_values l.left)) + 1

abbrev pub decreases-same_ordered_members : goal.decreases-same_ordered_members
decreases-same_ordered_members l = 4 * members_height (members_in l.left) + 2

abbrev pub decreases-same_side_by_side : goal.decreases-same_side_by_side
decreases-same_side_by_side l = 4 * members_height (members (range_entries l.left)) + 1

abbrev pub invariant-same_ordered_items-loop-other : goal.invariant-same_ordered_items-loop-other
invariant-same_ordered_items-loop-other l =
    (items_height (items (item_values l.ones)) ≤ items_height (items (item_values l.left)))
    × (same_items (items (item_values l.ones)) (items (ordered_values (drop l.other-index l.right)))
    ≡ same_items (items (item_values l.left)) (items (ordered_values l.right)))

abbrev pub invariant-same_side_by_side-loop-value : goal.invariant-same_side_by_side-loop-value
invariant-same_side_by_side-loop-value l =
    (members_height (members (range_entries l.ones)) ≤ members_height (members (range_entries l.left)))
    × (same_members (members (range_entries l.ones))
    (named (range_entries l.others) (ordered_values (drop l.value-index l.values)))
    ≡ same_members (members (range_entries l.left)) (named (range_entries l.names) (ordered_values l.values)))
