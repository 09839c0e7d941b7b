-- Segments after segments.
use Rattle.std.proofs.Common.{◌≡◌, List, [], ◌∷◌, ◌++◌, refl}
use Rattle.std.specs.List.{flat_map}
use Rattle.jp_doc.specs.Json.{Json}
use Rattle.jp_doc.specs.Location.{Node}
use Rattle.jp_tree.specs.Tree.{Segment, segments, query_from}
use Rattle.jp_tree.specs.declared.tree.Start.{Start}
use Rattle.jp_tree.specs.declared.tree.Start.TheVariants.{Root, Current}
use Rattle.jp_pattern.specs.Tests.{Tests}
use Rattle.jp_eval.specs.Nodelist.{nodelist, through, segment_nodes}

module _ (t : Tests) (root : Json) where
  pub through_more : (ss more : List Segment) (ns : List Node) → through t root (segments (ss ++ more)) ns
      ≡ through t root (segments more) (through t root (segments ss) ns)
  through_more [] more ns = refl
  through_more (s ∷ ss) more ns = through_more ss more (flat_map (segment_nodes t root s) ns)

  pub nodelist_more : (start : Start) (ss more : List Segment) (current : Node)
      → nodelist t root (query_from start (ss ++ more)) current ≡ through t root (segments more)
      (nodelist t root (query_from start ss) current)
  nodelist_more Root ss more current = through_more ss more _
  nodelist_more Current ss more current = through_more ss more _
