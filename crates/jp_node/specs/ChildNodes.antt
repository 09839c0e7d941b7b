-- What the calls for children give: the children of a value as its kinds lie, and how high they are.
use Rattle.std.specs.Prelude.{ℕ, suc, List, [], ◌∷◌, ◌++◌, map, max}
use Rattle.std.specs.List.{filter}
use Rattle.jp_doc.specs.Height.{height}
use Rattle.jp_doc.specs.Json.{array, object, items}
use Rattle.jp_doc.specs.Location.{Location, Node, node}
use Rattle.jp_flat.specs.Structured.{is_structured}
use Rattle.jp_node.specs.Links.{link_step}
use Rattle.jp_node.specs.Inside.{item_values}
use Rattle.jp_node.specs.Members.{members, list_entries}
use Rattle.jp_node.specs.Part.{part_value}
use Rattle.jp_node.specs.Nodes.{item_nodes, member_nodes}
use Rattle.jp_node.specs.declared.children.Child.{Child}
use Rattle.jp_node.specs.declared.children.Children.{Children}
use Rattle.jp_node.specs.declared.children.Children.TheVariants.{Listed, Items, Members}

-- the node of a child of the value at a location, and those of several
abbrev pub child_node : Location → Child → Node
child_node at c = node (at ++ link_step c.link ∷ []) (part_value c.part)

abbrev pub listed_nodes : Location → List Child → List Node
listed_nodes at cs = map (child_node at) cs

-- how high a value is at least that has these children
abbrev pub children_height : List Child → ℕ
children_height [] = 0
children_height (c ∷ cs) = max (suc (height (part_value c.part))) (children_height cs)

-- the nodes among these whose values are arrays or objects
abbrev pub structured_nodes : List Node → List Node
structured_nodes ns = filter (λ n. is_structured n.value) ns

-- the nodes of some children of a value, and how high the value is at least
abbrev pub child_nodes : Location → Children → List Node
child_nodes at (Listed v) = listed_nodes at v.items
child_nodes at (Items i) = item_nodes at 0 (items (item_values i))
child_nodes at (Members l) = member_nodes at (members (list_entries l))

abbrev pub all_height : Children → ℕ
all_height (Listed v) = children_height v.items
all_height (Items i) = height (array (items (item_values i)))
all_height (Members l) = height (object (members (list_entries l)))
