use Rattle.std.proofs.Common.{◌∙◌, ap, sym}
use Rattle.jp_number.specs.declared.numbers.Numbers.TheVariants.{Whole}
use Rattle.jp_doc.specs.Lines.{lines}
use Rattle.jp_output.specs.OutputForm.{node_lines}
use Rattle.jp_answer.specs.Answer.{answer_by}
use Rattle.jp_answer.specs.FilteredQuery.{FilteredQuery}
use Rattle.jp_answer.specs.Policy.{policy}
use Rattle.jp_answer.specs.declared.on_fault.OnFault.TheVariants.{Stop}
use Rattle.jp_run.proofs.laws.forms.Goals as goal

-- where no filter is asked, what the texts spell has none
pub returns-clause-stops : goal.returns-clause-stops
returns-clause-stops c = λ text ending fields input a h. (
  h.0.query,
  h.1.query,
  λ t right. ap (λ (q : FilteredQuery). answer_by node_lines (policy Whole Stop) t q (lines input))
      (sym (ap (λ f. record { filter = f; query = h.0.query }) h.1.filter)) ∙ h.2 t right,
)
