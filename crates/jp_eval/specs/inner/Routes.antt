-- A step of a proof, which nobody has to believe: the one way that some queries have in every document.
use Rattle.std.specs.Prelude.{ℕ, ℤ, pos, negsuc, ◌==◌, ◌&&◌, Bool, true, false, List, [], ◌∷◌}
use Rattle.jp_doc.specs.Json.{Json, text_eq}
use Rattle.jp_doc.specs.Location as at
use Rattle.jp_doc.specs.Location.{Step, Location, Node, value_at}
use Rattle.jp_tree.specs.Tree as tree
use Rattle.jp_types.specs.Numbers.{whole_number}
use Rattle.jp_node.specs.Nodes.{node_if_some}
use Rattle.jp_node.specs.Links.{link_steps}
use Rattle.jp_eval.specs.declared.route.Route.{Route}
use Rattle.jp_eval.specs.declared.route.Route.TheVariants.{Unknown, Missing, Links}

-- an index is this place, counted from the front
abbrev pub is_place : ℤ → ℕ → Bool
is_place (pos n) i = n == i
is_place (negsuc n) i = false

-- a selector is a name or an index from the front, and goes this step
abbrev pub is_step : tree.Selector → Step → Bool
is_step (tree.name k) (at.name l) = text_eq k l
is_step (tree.index t) (at.index i) = is_place (whole_number t) i
is_step _ _ = false

-- a segment is one such selector
abbrev pub is_single_step : tree.Segment → Step → Bool
is_single_step (tree.segment false (tree.add_selector x tree.no_selectors)) s = is_step x s
is_single_step _ _ = false

-- segments are such ones, and go these steps
abbrev pub is_route : tree.Segments → Location → Bool
is_route tree.no_segments [] = true
is_route (tree.add_segment s ss) (t ∷ ts) = is_single_step s t && is_route ss ts
is_route _ _ = false

-- a route is that of these segments, where it has been found
abbrev pub is_routed : tree.Segments → Route → Bool
is_routed ss (Links path) = is_route ss (link_steps path)
is_routed ss Missing = true
is_routed ss Unknown = true

-- the node at a location, if there is one
abbrev pub nodes_along : Location → Json → List Node
nodes_along l v = node_if_some l (value_at l v)
