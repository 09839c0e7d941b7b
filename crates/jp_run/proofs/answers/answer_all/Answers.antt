use Rattle.std.proofs.Common.{List, None, map, ap, sym, ◌∙◌, ℕ}
use Rattle.jp_doc.specs.Lines.{Line}
use Rattle.jp_buffer.specs.Buffered.{line_at}
use Rattle.jp_tree.specs.Tree.{Query}
use Rattle.jp_check.specs.Plan.{planned_query}
use Rattle.jp_compiled.specs.Compiled.{compiled_query}
use Rattle.jp_answer.specs.Answer.{Answer, whole}
use Rattle.jp_answer.specs.declared.on_fault.OnFault.TheVariants.{KeepGoing}
use Rattle.jp_run.proofs.AskedOf.{asked_so}
use Rattle.jp_run.proofs.answers.answer_all.Goals as goal

pub returns-clause-whole : goal.returns-clause-whole
returns-clause-whole g c = λ t right.
    let lines = map line_at c.deref.result.now in
    ap (λ (ls : List Line). whole t (planned_query c.args.plan.now) ls)
    (sym (ap (map line_at) c.deref.ensures.value ∙ c.in_ok-lines.ensures))
    ∙ ap (λ (r : Query). whole t r lines) (sym c.compiled.ensures)
    ∙ ap (λ (a : Answer). record { bytes = a.bytes; stopped = None; faulty = a.faulty })
    (asked_so c.asked_of-asked.result c.plain-layout.result (compiled_query c.compiled.result.now) KeepGoing t
    lines c.asked_of-asked.ensures.query c.asked_of-asked.ensures.layout c.asked_of-asked.ensures.policy
    c.plain-layout.ensures.head
    ∙ c.in_ok-answer.ensures.answer t right)
    ∙ ap (λ (bs : List ℕ). record { bytes = bs; stopped = None; faulty = c.in_ok-answer.answer.faulty })
    (sym c.in_ok-join_chunks.ensures)
