use Rattle.std.proofs.Common.{◌+◌, ◌*◌, ◌≤◌, length}
use Rattle.jp_doc.specs.Height.{height, items_height}
use Rattle.jp_doc.specs.Json.{items}
use Rattle.jp_node.specs.Inside.{item_values, kind_value}
use Rattle.jp_value.proofs.ordered.+holds_object.Given as goal

-- how high the value is, then the rank of the function
abbrev pub decreases-holds_object : goal.decreases-holds_object
decreases-holds_object l = 2 * height (kind_value l.value)

abbrev pub decreases-item_holds_object : goal.decreases-item_holds_object
decreases-item_holds_object l = 2 * items_height (items (item_values l.list)) + 1

abbrev pub invariant-item_holds_object-loop-item : goal.invariant-item_holds_object-loop-item
invariant-item_holds_object-loop-item l =
    items_height (items (item_values l.left)) ≤ items_height (items (item_values l.list))

abbrev pub decreases-item_holds_object-loop-item : goal.decreases-item_holds_object-loop-item
decreases-item_holds_object-loop-item l = length (item_values l.left)
