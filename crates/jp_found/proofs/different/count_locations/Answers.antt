use Rattle.std.proofs.Common.{◌∙◌}
use Rattle.jp_found.proofs.SameLocations.{count_same}
use Rattle.jp_found.proofs.different.count_locations.Goals as goal

pub returns : goal.returns
returns c = c.count_different.ensures ∙ count_same c.args.ways.items
