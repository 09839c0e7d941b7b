use Rattle.std.proofs.Common.{◌∙◌, Option, ap₂, sym}
use Rattle.std.proofs.lemmas.Result.{IfOk-weaker}
use Rattle.jp_tree.specs.Tree.{Logical, Query}
use Rattle.jp_answer.specs.Answer.{answer_by}
use Rattle.jp_answer.specs.FilteredQuery.{FilteredQuery}
use Rattle.jp_answer.specs.Policy.{policy}
use Rattle.jp_output.specs.declared.layout.Layout.{Layout}
use Rattle.jp_run.specs.Answered.{numbering_of}
use Rattle.jp_run.specs.Cutting.{documents}
use Rattle.jp_run.specs.Forms.{form_of}
use Rattle.jp_run.specs.Prepared.{prepared_query}
use Rattle.jp_memory.proofs.preparing.answer_prepared.Goals as goal

pub returns-clause-answer : goal.returns-clause-answer
returns-clause-answer c = λ asked accepted. IfOk-weaker c.answer_in_form.result _ _ (λ a same. (
  prepared_query c.args.prepared.now,
  accepted,
  λ t right.
      let settings = c.args.settings.now in
      ap₂ (λ (layout : Layout) (q : FilteredQuery). answer_by (form_of settings.output layout)
      (policy settings.numbers settings.on_fault) t q
      (documents (numbering_of settings) c.args.input.now)) (sym c.in_ok-layout.ensures)
      (sym (ap₂ (λ (f : Option Logical) (q : Query). record { filter = f; query = q })
      c.document_filter.ensures (c.compiled.ensures ∙ c.plan.ensures)))
      ∙ same t right,
)) c.answer_in_form.ensures.answer
