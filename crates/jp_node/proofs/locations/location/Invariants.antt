use Rattle.std.proofs.Common.{◌≡◌, take, map}
use Rattle.jp_doc.specs.Location.{step_of}
use Rattle.jp_node.specs.Links.{link_steps}
use Rattle.jp_node.proofs.locations.location.Given as goal

abbrev pub invariant-loop-link : goal.invariant-loop-link
invariant-loop-link l = map step_of l.steps.items ≡ link_steps (take l.link-index l.links)
