use Rattle.std.proofs.Common.{◌∙◌, sym}
use Rattle.jp_documents.proofs.RunLaws.{opening_alike}
use Rattle.jp_documents.proofs.runs.asks_lead.Goals as goal

pub returns-in-Some-last : goal.returns-in-Some-last
returns-in-Some-last c n lead =
    opening_alike c.args.run.now c.args.rest.now c.in-Some.byte.now c.in-Some-last.last.now
    c.in-Some.ensures.value (sym c.is_opening.ensures
    ∙ c.if-is_opening.true) c.in-Some-last.ensures.value n lead
