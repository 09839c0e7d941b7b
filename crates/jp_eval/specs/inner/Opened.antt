-- A step of a proof, which nobody has to believe: a value whose children are listed.
use Rattle.std.specs.Prelude.{◌≡◌, ◌≤◌, IfSome}
use Rattle.jp_doc.specs.Height.{height}
use Rattle.jp_doc.specs.Location.{Location}
use Rattle.jp_node.specs.Nodes.{children_at}
use Rattle.jp_node.specs.Part.{part_value}
use Rattle.jp_node.specs.declared.part.Part.{Part}
use Rattle.jp_node.specs.ChildRanges.{range_nodes, range_height}
use Rattle.jp_node.specs.declared.child_range.ChildRange.{ChildRange}
use Rattle.jp_eval.specs.declared.walk.Opened.{Opened}

-- a range has all children of a value, and no more
pub record AllChildren (value : Part) (range : ChildRange) : Type 0 where
  pub nodes : (at : Location) → range_nodes at range ≡ children_at at (part_value value)
  pub height : range_height range ≤ height (part_value value)

-- the children that are listed, if they are, are those of the value
abbrev pub AreChildren : Opened → Type 0
AreChildren o = IfSome o.range (AllChildren o.value)
