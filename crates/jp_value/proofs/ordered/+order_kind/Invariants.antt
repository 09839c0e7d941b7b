use Rattle.std.proofs.Common.{◌≡◌, ◌+◌, ◌*◌, ◌≤◌, ◌++◌, length, map}
use Rattle.jp_doc.specs.Height.{height, items_height, members_height}
use Rattle.jp_doc.specs.Json.{items}
use Rattle.jp_node.specs.Inside.{item_values, kind_value, members_in}
use Rattle.jp_node.specs.Members.{members, range_entries}
use Rattle.jp_value.specs.Ordered.{ordered_values}
use Rattle.jp_value.proofs.ordered.+order_kind.Given as goal

-- how high the value is, then the rank of the function
abbrev pub decreases-order_kind : goal.decreases-order_kind
decreases-order_kind l = 4 * height (kind_value l.value)

abbrev pub decreases-order_items : goal.decreases-order_items
decreases-order_items l = 4 * items_height (items (item_values l.list)) + 1

abbrev pub decreases-order_members : goal.decreases-order_members
decreases-order_members l = 4 * members_height (members_in l.members) + 2

abbrev pub decreases-order_values : goal.decreases-order_values
decreases-order_values l = 4 * members_height (members (range_entries l.members)) + 1

abbrev pub invariant-order_items-loop-item : goal.invariant-order_items-loop-item
invariant-order_items-loop-item l =
    (items_height (items (item_values l.left)) ≤ items_height (items (item_values l.list)))
    × (ordered_values l.values.items ++ item_values l.left ≡ item_values l.list)

abbrev pub decreases-order_items-loop-item : goal.decreases-order_items-loop-item
decreases-order_items-loop-item l = length (item_values l.left)

abbrev pub invariant-order_values-loop-member : goal.invariant-order_values-loop-member
invariant-order_values-loop-member l =
    (members_height (members (range_entries l.left)) ≤ members_height (members (range_entries l.members)))
    × (ordered_values l.values.items ++ map (λ e. e.1) (range_entries l.left)
    ≡ map (λ e. e.1) (range_entries l.members))

abbrev pub decreases-order_values-loop-member : goal.decreases-order_values-loop-member
decreases-order_values-loop-member l = length (range_entries l.left)
