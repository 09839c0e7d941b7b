-- What ranges of children stand for.
use Rattle.std.specs.Prelude.{ℕ, ◌-◌, List, length, map, take}
use Rattle.jp_doc.specs.Height.{height}
use Rattle.jp_doc.specs.Json.{array, object, items}
use Rattle.jp_doc.specs.Location.{Location, Node}
use Rattle.jp_flat.specs.Gathered.{entry}
use Rattle.jp_flat.specs.declared.value.FlatItems.{FlatItems}
use Rattle.jp_flat.specs.declared.value.FlatMember.{FlatMember}
use Rattle.jp_node.specs.Inside.{item_values}
use Rattle.jp_node.specs.Members.{members, range_entries}
use Rattle.jp_node.specs.declared.items.Items.{Items}
use Rattle.jp_node.specs.ChildNodes.{listed_nodes, children_height}
use Rattle.jp_node.specs.Nodes.{item_nodes, member_nodes}
use Rattle.jp_node.specs.declared.child_range.ChildRange.{ChildRange}
use Rattle.jp_node.specs.declared.child_range.ChildRange.TheVariants as range

-- the nodes of a range, how high the value is at least, and how many places the range has
abbrev pub range_nodes : Location → ChildRange → List Node
range_nodes at (range.Listed cs) = listed_nodes at cs.now
range_nodes at (range.Items i first past) = item_nodes at first (items (take (past - first) (item_values i)))
range_nodes at (range.Members r) = member_nodes at (members (range_entries r))

abbrev pub range_height : ChildRange → ℕ
range_height (range.Listed cs) = children_height cs.now
range_height (range.Items i first past) = height (array (items (item_values i)))
range_height (range.Members r) = height (object (members (range_entries r)))

abbrev pub range_length : ChildRange → ℕ
range_length (range.Listed cs) = length cs.now
range_length (range.Items i first past) = past - first
range_length (range.Members r) = length (range_entries r)

-- the nodes of members in a list, and how high the object is at least
abbrev pub flat_member_nodes : Location → List FlatMember → List Node
flat_member_nodes at ms = member_nodes at (members (map entry ms))

abbrev pub flat_members_height : List FlatMember → ℕ
flat_members_height ms = height (object (members (map entry ms)))

-- the range of these items
abbrev pub of_flat_items : FlatItems → ℕ → ℕ → ChildRange
of_flat_items i first past = let all : Items = record { items = i } in range.Items all first past
