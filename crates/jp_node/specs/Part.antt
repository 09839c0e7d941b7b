-- The value that a part of a document is.
use Rattle.jp_doc.specs.Json.{Json}
use Rattle.jp_flat.specs.Value.{flat_value}
use Rattle.jp_node.specs.declared.part.Part.{Part}

abbrev pub part_value : Part → Json
part_value p = flat_value p.value
