use Rattle.std.proofs.Common.{◌∙◌, ap, sym}
use Rattle.jp_answer.specs.Answer.{answer_by}
use Rattle.jp_answer.specs.Asking.{asked_query}
use Rattle.jp_answer.specs.declared.asked.Asked.{Asked}
use Rattle.jp_run.specs.Answered.{numbering_of}
use Rattle.jp_run.specs.Cutting.{documents}
use Rattle.jp_memory.proofs.answering.answer_in.Goals as goal

pub answer_all-requires-clause-query : goal.answer_all-requires-clause-query
answer_all-requires-clause-query g c =
    c.new-answering.ensures.query ∙ sym (ap asked_query c.new-answering.ensures.asked)

pub returns-clause-answer : goal.returns-clause-answer
returns-clause-answer g c = λ t right.
    ap (λ (a : Asked). answer_by (g.F.Form.says a.layout.now) a.policy t (asked_query a)
    (documents (numbering_of c.args.settings.now) c.args.input.now)) (sym c.new-answering.ensures.asked)
    ∙ c.in_ok-answer_all.ensures.answer t right ∙ sym c.in_ok-into_answered.ensures
