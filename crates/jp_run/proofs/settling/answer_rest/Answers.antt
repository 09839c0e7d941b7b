use Rattle.std.proofs.Common.{List, subst, Bool}
use Rattle.jp_doc.specs.Lines.{Line}
use Rattle.jp_run.specs.Answered.{manner_in}
use Rattle.jp_run.specs.inner.Ended.{AnswerEnded}
use Rattle.jp_run.proofs.Ending.{rest_answer}
use Rattle.jp_run.proofs.Handing.{told}
use Rattle.jp_run.specs.inner.Jobs.{job_query}
use Rattle.jp_run.proofs.settling.answer_rest.Goals as goal

pub returns-in_err-answer_come-clause-fault : goal.returns-in_err-answer_come-clause-fault
returns-in_err-answer_come-clause-fault g c =
    let going = manner_in g.F.Form.says c.args.job.now.settings in
    let q = job_query c.args.job.now in
    let failed : Bool = g.K.Sink.failed c.answer_come.new.sink in
    let old = g.K.Sink.contents c.args.sink.now in
    let new = g.K.Sink.contents c.answer_come.new.sink in
    told _ _ _ c.from_residual-in_err-answer_come.ensures.1 (rest_answer going q _ _ failed old new _
    (subst (λ (l : List Line). AnswerEnded going q l failed old new c.in_err-answer_come.field-0.0)
    c.in_ok-count.ensures.lines c.in_err-answer_come.ensures.fault))
