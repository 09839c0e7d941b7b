use Rattle.std.proofs.Common.{map, ap, ◌∙◌}
use Rattle.std.proofs.lemmas.List.{map-append}
use Rattle.jp_doc.specs.Location.{location_of}
use Rattle.jp_node.proofs.Taking.{locations_append}
use Rattle.jp_node.proofs.locations.LocationsVisit.append.Goals as goal

pub returns : goal.returns
returns c = λ ns e. ap (map location_of) c.in_ok-append.ensures.items
    ∙ map-append location_of c.args.self.now.locations.items c.args.other.locations.items
    ∙ locations_append _ _ ns e
