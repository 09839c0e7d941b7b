use Rattle.std.proofs.Common.{◌≡◌, drop}
use Rattle.jp_doc.specs.Location.{value_at}
use Rattle.jp_node.specs.Part.{part_value}
use Rattle.jp_node.specs.Links.{link_steps}
use Rattle.jp_eval.proofs.route.value_along.Given as goal

-- what is left of the links leads from the last value to where all of them lead from the first
abbrev pub invariant-loop-link : goal.invariant-loop-link
invariant-loop-link l = value_at (link_steps l.links) (part_value l.root)
    ≡ value_at (link_steps (drop l.link-index l.links)) (part_value l.last)
