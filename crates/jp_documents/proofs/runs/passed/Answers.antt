use Rattle.std.proofs.Common.{sym, ap}
use Rattle.jp_documents.specs.Documents.{cut_at}
use Rattle.jp_documents.specs.declared.place.Place.TheVariants.{InBrackets}
use Rattle.jp_documents.proofs.RunLaws.{passed_brackets, passed_text}
use Rattle.jp_documents.proofs.runs.passed.Goals as goal

pub returns-then-asks_lead-clause-cuts : goal.returns-then-asks_lead-clause-cuts
returns-then-asks_lead-clause-cuts c =
    passed_brackets c.args.place _ _ _ c.args.bytes.now c.split_at.result.0.now c.split_at.result.1.now _ _
    c.in-InBrackets.is c.brackets_run.ensures.value c.split_at.ensures.front_len c.split_at.ensures.front
    c.split_at.ensures.back
    (ap (λ l. cut_at (InBrackets c.in-InBrackets.depth l) c.split_at.result.1.now)
    (sym c.lead_over-leads.ensures))

pub returns-else-asks_lead-clause-cuts : goal.returns-else-asks_lead-clause-cuts
returns-else-asks_lead-clause-cuts c =
    passed_brackets c.args.place _ _ _ c.args.bytes.now c.split_at.result.0.now c.split_at.result.1.now _ _
    c.in-InBrackets.is c.brackets_run.ensures.value c.split_at.ensures.front_len c.split_at.ensures.front
    c.split_at.ensures.back
    (c.asks_lead.ensures c.if-asks_lead.false c.in-InBrackets.lead c.in-InBrackets.depth)

pub returns-in-InText-clause-cuts : goal.returns-in-InText-clause-cuts
returns-in-InText-clause-cuts c =
    passed_text c.args.place _ c.args.bytes.now _ c.in-InText.is c.text_run.ensures.value
