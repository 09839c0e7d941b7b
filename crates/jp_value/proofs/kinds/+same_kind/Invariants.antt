use Rattle.std.proofs.Common.{◌≡◌, ◌+◌, ◌*◌, ◌≤◌, length}
use Rattle.jp_doc.specs.Height.{height, items_height, members_height}
use Rattle.jp_doc.specs.Json.{items}
use Rattle.jp_node.specs.Inside.{item_values, kind_value, members_in}
use Rattle.jp_node.specs.Members.{members, range_entries}
use Rattle.jp_value.specs.Comparison.{same_items, same_members}
use Rattle.jp_value.proofs.kinds.+same_kind.Given as goal

-- how high the left value is, then the rank of the function
abbrev pub decreases-same_kind : goal.decreases-same_kind
decreases-same_kind l = 4 * height (kind_value l.left)

abbrev pub decreases-same_items : goal.decreases-same_items
decreases-same_items l = 4 * items_height (items (item_values l.left)) + 1

abbrev pub decreases-same_members : goal.decreases-same_members
decreases-same_members l = 4 * members_height (members_in l.left) + 3

abbrev pub decreases-same_as_listed : goal.decreases-same_as_listed
decreases-same_as_listed l = 4 * members_height (members_in l.left) + 2

abbrev pub decreases-same_as_object : goal.decreases-same_as_object
decreases-same_as_object l = 4 * members_height (members (range_entries l.left)) + 2

abbrev pub decreases-same_ranges : goal.decreases-same_ranges
decreases-same_ranges l = 4 * members_height (members (range_entries l.left)) + 1

abbrev pub invariant-same_items-loop-one : goal.invariant-same_items-loop-one
invariant-same_items-loop-one l =
    (items_height (items (item_values l.ones)) ≤ items_height (items (item_values l.left)))
    × (same_items (items (item_values l.ones)) (items (item_values l.others))
    ≡ same_items (items (item_values l.left)) (items (item_values l.right)))

abbrev pub decreases-same_items-loop-one : goal.decreases-same_items-loop-one
decreases-same_items-loop-one l = length (item_values l.ones)

abbrev pub invariant-same_ranges-loop-one : goal.invariant-same_ranges-loop-one
invariant-same_ranges-loop-one l =
    (members_height (members (range_entries l.ones)) ≤ members_height (members (range_entries l.left)))
    × (same_members (members (range_entries l.ones)) (members (range_entries l.others))
    ≡ same_members (members (range_entries l.left)) (members (range_entries l.right)))

abbrev pub decreases-same_ranges-loop-one : goal.decreases-same_ranges-loop-one
decreases-same_ranges-loop-one l = length (range_entries l.ones)
