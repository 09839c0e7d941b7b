use Rattle.std.proofs.Common.{◌≡◌, ◌∙◌, map, subst, sym}
use Rattle.std.proofs.lemmas.Result.{IfOk-weaker}
use Rattle.jp_buffer.specs.Buffered.{line_at}
use Rattle.jp_answer.specs.declared.asked.Asked.{Asked}
use Rattle.jp_answer.specs.inner.Gathering.{asked_answer, gathered_of}
use Rattle.jp_answer.proofs.lists.answer_by_workers.Goals as goal

pub returns-clause-answer : goal.returns-clause-answer
returns-clause-answer g c = IfOk-weaker c.into_outcome.result _ _ (λ a same t right.
    subst (λ (x : Asked). asked_answer g.F.Form.says x t (map line_at c.args.lines.now)
    ≡ gathered_of c.in_ok-done.done) c.new-out.ensures.asked (c.in_ok-done.ensures.answer t right) ∙ sym same)
    c.into_outcome.ensures.answer
