use Rattle.jp_found.specs.Kept.{kept}
use Rattle.jp_found.proofs.Keeping.{emptied_stays}
use Rattle.jp_found.proofs.found.fresh.Goals as goal

pub returns-clause-later : goal.returns-clause-later
returns-clause-later g c = λ ns. emptied_stays g.V.Visit.put g.V.Visit.emptied
    g.met.V.Visit.emptied_stays (kept g.V.Visit.kept c.args.found.now) ns
