-- Where the way to a node leads.
use Rattle.std.specs.Prelude.{map, reverse}
use Rattle.std.specs.Str.{chars}
use Rattle.jp_doc.specs.Location.{Step, Location, name, index}
use Rattle.jp_found.specs.declared.way.Stop.{Stop}
use Rattle.jp_found.specs.declared.way.Stop.TheVariants.{Name, Index}
use Rattle.jp_found.specs.declared.way.Way.{Way}

abbrev pub stop_step : Stop → Step
stop_step (Name n) = name (chars n.text.now)
stop_step (Index i) = index i

-- its steps, from the root on
abbrev pub way_location : Way → Location
way_location w = map stop_step (reverse w.stops.items)
