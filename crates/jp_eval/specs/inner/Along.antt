-- A step of a proof, which nobody has to believe: actions along children.
use Rattle.std.specs.Prelude.{ℕ, ◌+◌, List, [], ◌++◌, length, Option, Some, None}
use Rattle.std.specs.Borrow.{Bor}
use Rattle.std.specs.List.{flat_map}
use Rattle.jp_doc.specs.Location.{Location, Node, node}
use Rattle.jp_compiled.specs.declared.query.CompiledSegment.{CompiledSegment}
use Rattle.jp_compiled.specs.declared.query.CompiledSelector.{CompiledSelector}
use Rattle.jp_node.specs.ChildNodes.{child_nodes}
use Rattle.jp_node.specs.Nodes.{children}
use Rattle.jp_node.specs.Part.{part_value}
use Rattle.jp_eval.specs.inner.Base.{Base}
use Rattle.jp_eval.specs.inner.Walk.{done, picked_by, reached}
use Rattle.jp_eval.specs.declared.walk.Action.TheVariants.{Descend}
use Rattle.jp_eval.specs.declared.work_items.WorkItem.{WorkItem}
use Rattle.jp_eval.specs.declared.work_items.WorkItems.{WorkItems}

-- what the action finds at the children
abbrev pub done_along : Base → Location → WorkItem → List Node
done_along base at s = flat_map (done base s.action) (child_nodes at s.children)

-- what selectors that are applied at each descendant find below a node, with the segments behind them
abbrev pub done_below : Base → Bor (List CompiledSegment) → Option (Bor (List CompiledSelector)) → Node
    → List Node
done_below base rest None n = []
done_below base rest (Some xs) n = flat_map (done base (Descend xs rest)) (children n)

-- what the work items that are left find at the value, one after another, and how many they are at most
abbrev pub done_by : Base → Location → WorkItems → List Node
done_by base at w =
    reached base w.rest.now (picked_by base w.selectors.now (node at (part_value w.value)))
    ++ done_below base w.rest w.below (node at (part_value w.value))

abbrev pub count_below : Option (Bor (List CompiledSelector)) → ℕ
count_below None = 0
count_below (Some xs) = 1

abbrev pub items_left : WorkItems → ℕ
items_left w = length w.selectors.now + count_below w.below
