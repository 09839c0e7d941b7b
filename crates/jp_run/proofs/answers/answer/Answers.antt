use Rattle.std.proofs.Common.{ℕ, List, map, ap, ap₂, sym, ◌∙◌}
use Rattle.jp_number.specs.declared.numbers.Numbers.TheVariants.{Whole}
use Rattle.jp_doc.specs.Lines.{Line}
use Rattle.jp_buffer.specs.Buffered.{line_at}
use Rattle.jp_tree.specs.Tree.{Query}
use Rattle.jp_check.specs.Plan.{planned_query}
use Rattle.jp_compiled.specs.Compiled.{compiled_query}
use Rattle.jp_answer.specs.Answer.{answer as answer_to}
use Rattle.jp_answer.specs.Answered.{outcome_of}
use Rattle.jp_answer.specs.Policy.{passed_in}
use Rattle.jp_answer.specs.declared.on_fault.OnFault.TheVariants.{Stop}
use Rattle.jp_answer.specs.declared.policy.LinePolicy.{LinePolicy}
use Rattle.jp_answer.proofs.Joining.{none_before}
use Rattle.jp_run.proofs.AskedOf.{asked_so}
use Rattle.jp_run.proofs.answers.answer.Goals as goal

pub returns-clause-answer : goal.returns-clause-answer
returns-clause-answer g c = λ t right.
    let lines = map line_at c.deref.result.now in
    let stopped = (outcome_of c.in_ok-answer.answer).stopped in
    ap (λ (ls : List Line). answer_to t (planned_query c.args.plan.now) ls)
    (sym (ap (map line_at) c.deref.ensures.value ∙ c.in_ok-lines.ensures))
    ∙ ap (λ (r : Query). answer_to t r lines) (sym c.compiled.ensures)
    ∙ asked_so c.asked_of-asked.result c.plain-layout.result (compiled_query c.compiled.result.now) Stop t
    lines
    c.asked_of-asked.ensures.query c.asked_of-asked.ensures.layout c.asked_of-asked.ensures.policy
    c.plain-layout.ensures.head
    ∙ c.in_ok-answer.ensures.answer t right
    ∙ ap₂ (λ (bs : List ℕ) (n : ℕ). record { bytes = bs; stopped = stopped; faulty = n })
    (sym c.in_ok-join_chunks.ensures)
    (sym c.in_ok-answer.ensures.passed
    ∙ ap (λ (p : LinePolicy). passed_in p lines) c.asked_of-asked.ensures.policy ∙ none_before Whole lines)
