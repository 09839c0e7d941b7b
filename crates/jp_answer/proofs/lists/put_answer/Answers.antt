use Rattle.std.proofs.Common.{subst}
use Rattle.std.proofs.lemmas.Result.{on_ok_weaker}
use Rattle.jp_answer.specs.Blocks.{IsTaskAnswer}
use Rattle.jp_answer.specs.Queued.{sent_task}
use Rattle.jp_answer.proofs.Gathering.{few_of_task, has_put}
use Rattle.jp_answer.proofs.lists.put_answer.Goals as goal

pub put-requires-clause-few : goal.put-requires-clause-few
put-requires-clause-few g c = (
  c.requires.few,
  few_of_task g.F.Form.says
      c.deref.result.now.task c.in-Some.answer.now c.in-Some.ensures,
)

pub put-requires-2-clause-few : goal.put-requires-2-clause-few
put-requires-2-clause-few g c = (
  c.requires.few,
  few_of_task g.F.Form.says
      c.deref-2.result.now.task c.in_ok-answer.answer c.in_ok-answer.ensures,
)

pub returns-in-Some : goal.returns-in-Some
returns-in-Some g c = on_ok_weaker c.put.result
    (has_put g.F.Form.says (sent_task c.args.front.now) c.args.done.now c.put.new.self c.in-Some.answer.now
    c.requires.unstopped
    (subst (λ b. IsTaskAnswer g.F.Form.says b.task c.in-Some.answer.now) c.deref.ensures c.in-Some.ensures))
    c.put.ensures.answer

pub returns : goal.returns
returns g c = on_ok_weaker c.put-2.result
    (has_put g.F.Form.says (sent_task c.args.front.now) c.args.done.now c.put-2.new.self c.in_ok-answer.answer
    c.requires.unstopped
    (subst (λ b. IsTaskAnswer g.F.Form.says b.task c.in_ok-answer.answer) c.deref-2.ensures
    c.in_ok-answer.ensures))
    c.put-2.ensures.answer
