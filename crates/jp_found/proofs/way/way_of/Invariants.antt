use Rattle.std.proofs.Common.{◌≡◌, take, map}
use Rattle.jp_node.specs.Links.{link_steps}
use Rattle.jp_found.specs.Ways.{stop_step}
use Rattle.jp_found.proofs.way.way_of.Given as goal

abbrev pub invariant-loop-link : goal.invariant-loop-link
invariant-loop-link l = map stop_step l.stops.items ≡ link_steps (take l.link-index l.links)
