use Rattle.std.proofs.Common.{sym, ap, ◌∙◌, map, option_map}
use Rattle.jp_found.specs.Kept.{kept}
use Rattle.jp_found.specs.Ways.{way_location}
use Rattle.jp_node.specs.Part.{part_value}
use Rattle.jp_found.proofs.Telling.{first_tells, count_tells, only_tells, located_tells}
use Rattle.jp_found.proofs.found.into_aggregate.Goals as goal

pub returns-in-First-clause-answer : goal.returns-in-First-clause-answer
returns-in-First-clause-answer g c = λ want ns h.
    first_tells g.V.Visit.put want ns c.in-First.first (sym (ap (kept g.V.Visit.kept) c.in-First.is) ∙ h)

pub returns-in-Count-clause-answer : goal.returns-in-Count-clause-answer
returns-in-Count-clause-answer g c = λ want ns h.
    count_tells g.V.Visit.put want ns c.in-Count.count (sym (ap (kept g.V.Visit.kept) c.in-Count.is) ∙ h)

pub returns-in-Only-clause-answer : goal.returns-in-Only-clause-answer
returns-in-Only-clause-answer g c = λ want ns h.
    only_tells g.V.Visit.put want ns c.in-Only.alone (sym (ap (kept g.V.Visit.kept) c.in-Only.is) ∙ h)

pub returns-in-Distinct-clause-answer : goal.returns-in-Distinct-clause-answer
returns-in-Distinct-clause-answer g c = λ want ns h.
    let l = c.in-Distinct.located in
    located_tells g.V.Visit.put want ns c.each_once.result (option_map part_value l.first)
    (map way_location l.ways.items) (sym (ap (kept g.V.Visit.kept) c.in-Distinct.is) ∙ h)
    c.each_once.ensures
