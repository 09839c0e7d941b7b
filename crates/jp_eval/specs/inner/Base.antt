-- A step of a proof, which nobody has to believe: what a compiled query is read by.
use Rattle.std.specs.Prelude.{List}
use Rattle.jp_doc.specs.Json.{Json}
use Rattle.jp_compiled.specs.Parts.{Wanted, roots_of}
use Rattle.jp_node.specs.Part.{part_value}
use Rattle.jp_eval.specs.declared.context.Context.{Context}

-- the document, and the `$` queries inside filters
pub record Base : Type 0 where
  pub root : Json
  pub roots : List Wanted

abbrev pub base_of : Context → Base
base_of g = record { root = part_value g.root; roots = roots_of g.roots.now }
