use Rattle.std.proofs.Common.{◌≡◌, ◌≤◌, ◌++◌, length, IfSome}
use Rattle.jp_doc.specs.Height.{height}
use Rattle.jp_doc.specs.Json.{array, items}
use Rattle.jp_doc.specs.Location.{Location, node}
use Rattle.jp_node.specs.ChildNodes.{listed_nodes, children_height}
use Rattle.jp_node.specs.Nodes.{items_at}
use Rattle.jp_node.specs.Inside.{item_values}
use Rattle.jp_node.specs.BoundsView.{bounds_value}
use Rattle.jp_node.specs.Places.{from_place, IfPlace}
use Rattle.jp_node.specs.Slice.{slice_indexes}
use Rattle.jp_node.proofs.slices.falling.Given as goal

abbrev pub invariant-loop-next : goal.invariant-loop-next
invariant-loop-next l =
    let bounds = bounds_value l.bounds in
    let all = item_values l.items in
    IfPlace bounds l.next
    × IfSome l.next (λ place. place ≤ l.highest)
    × ((at : Location) → listed_nodes at l.children.items
    ++ items_at (node at (array (items all))) (from_place bounds (length all) l.next)
    ≡ items_at (node at (array (items all))) (slice_indexes bounds (length all)))
    × (children_height l.children.items ≤ height (array (items all)))

abbrev pub decreases-loop-next : goal.decreases-loop-next
decreases-loop-next l =
    length (from_place (bounds_value l.bounds) (length (item_values l.items)) l.next)
