-- A step of a proof, which nobody has to believe: what the parts of the walk find, for private clauses.
use Rattle.std.specs.Prelude.{List, [], ◌∷◌, Bool, Option}
use Rattle.std.specs.List.{filter, flat_map}
use Rattle.jp_doc.specs.Json.{Json}
use Rattle.jp_doc.specs.Location.{Node}
use Rattle.jp_compiled.specs.Parts.{logical_in, selector_in, segments_in, value_in, nodes_in}
use Rattle.jp_compiled.specs.Parts.{source_argument}
use Rattle.jp_compiled.specs.declared.query.Want.{Want}
use Rattle.jp_compiled.specs.declared.query.CompiledSegment.{CompiledSegment}
use Rattle.jp_compiled.specs.declared.query.CompiledSelector.{CompiledSelector}
use Rattle.jp_compiled.specs.declared.query.CompiledLogical.{CompiledLogical}
use Rattle.jp_compiled.specs.declared.query.Giver.{Giver}
use Rattle.jp_compiled.specs.declared.query.Nodes.{Nodes}
use Rattle.jp_eval.specs.inner.Base.{Base}
use Rattle.jp_value.specs.Functions.{as_nodes}
use Rattle.jp_node.specs.Nodes.{descendants}
use Rattle.jp_eval.specs.Nodelist as spec
use Rattle.jp_value.specs.RightTests.{tests}
use Rattle.jp_eval.specs.declared.walk.Action.{Action}
use Rattle.jp_eval.specs.declared.walk.Action.TheVariants.{Run, Descend, Test}

-- what a selector selects at a node, and what several select
unfoldable pub picked : Base → CompiledSelector → Node → List Node
picked base x n = spec.select tests base.root (selector_in base.roots x) n

abbrev pub picked_by : Base → List CompiledSelector → Node → List Node
picked_by base xs n = flat_map (λ x. picked base x n) xs

-- segment after segment, from these nodes
unfoldable pub reached : Base → List CompiledSegment → List Node → List Node
reached base ss ns = spec.through tests base.root (segments_in base.roots ss) ns

-- whether an expression is true of a node
unfoldable pub is_true : Base → CompiledLogical → Node → Bool
is_true base l n = spec.holds tests base.root (logical_in base.roots l) n

-- the value that stands there at a node, or nothing
unfoldable pub value_given : Base → Giver → Node → Option Json
value_given base v n = spec.value_of tests base.root (value_in base.roots v) n

-- the nodes of a query inside a filter, of which this is wanted
unfoldable pub nodes_given : Base → Nodes → Want → Node → List Node
nodes_given base q want n = as_nodes (spec.handed tests base.root
    (source_argument (nodes_in base.roots q want)) n)

-- the segments from a node on, where the expression is true of it
abbrev pub sifted : Base → CompiledLogical → List CompiledSegment → Node → List Node
sifted base l rest n = reached base rest (filter (is_true base l) (n ∷ []))

-- what an action finds at a node
abbrev pub done : Base → Action → Node → List Node
done base (Run rest) n = reached base rest.now (n ∷ [])
done base (Descend xs rest) n = reached base rest.now (flat_map (picked_by base xs.now) (descendants n))
done base (Test l rest) n = sifted base l.now rest.now n
