use Rattle.std.proofs.Common.{ap, sym, ◌∙◌}
use Rattle.std.proofs.lemmas.Result.{on_ok_weaker}
use Rattle.jp_found.specs.Kept.{kept, put_found, taken, plus, emptied_found}
use Rattle.jp_found.proofs.Keeping.{taken_out, taken_plus}
use Rattle.jp_found.proofs.found.append.Goals as goal

pub returns-clause-nodes : goal.returns-clause-nodes
returns-clause-nodes g c = λ ns e. on_ok_weaker c.append.result
    (λ h. ap taken h ∙ taken_plus g.V.Visit.put (g.V.Visit.kept c.in-Visitor.visitor) ns
    ∙ ap (λ f. plus (put_found g.V.Visit.put) (kept g.V.Visit.kept f) ns) (sym c.in-Visitor.is))
    (c.append.ensures ns (taken_out g.V.Visit.put _ _ ns (e
    ∙ ap (λ f. plus (put_found g.V.Visit.put) (emptied_found g.V.Visit.emptied (kept g.V.Visit.kept f)) ns)
    c.in-Visitor.is)))
