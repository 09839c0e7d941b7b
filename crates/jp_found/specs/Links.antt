-- The node that a path stack leads to.
use Rattle.std.specs.Prelude.{List}
use Rattle.jp_doc.specs.Location.{Node, node}
use Rattle.jp_node.specs.Links.{link_steps}
use Rattle.jp_node.specs.declared.link.Link.{Link}
use Rattle.jp_node.specs.Part.{part_value}
use Rattle.jp_node.specs.declared.part.Part.{Part}

abbrev pub here : List Link → Part → Node
here links p = node (link_steps links) (part_value p)
