use Rattle.std.proofs.Common.{◌∙◌, subst, sym, ap}
use Rattle.jp_answer.specs.inner.Gathering.{Gathers}
use Rattle.jp_answer.proofs.Gathering.{few_gathered, gathers_put}
use Rattle.jp_answer.proofs.lists.take_front.Goals as goal

pub put_answer-requires-clause-few : goal.put_answer-requires-clause-few
put_answer-requires-clause-few g c κs within =
    let h = c.requires.gathers in
    few_gathered g.F.Form.says c.args.out.now.asked h.0 h.1 c.args.out.now.sent.items c.args.done.now h.2

pub returns-clause-gathers : goal.returns-clause-gathers
returns-clause-gathers g c = λ all rest h.
    let form = g.F.Form.says in
    let asked = c.args.out.now.asked in
    let done = c.args.done.now in
    let front = subst (λ l. Gathers form asked all rest l done)
    (sym (ap (λ d. d.items) c.await_front.ensures.sent) ∙ c.in-Some.ensures.items) h in
    subst (λ l. Gathers form asked all rest l c.put_answer.new.done) (sym (ap (λ d. d.items)
    c.let_go.ensures.sent))
    (gathers_put form asked all rest c.in-Some.front c.pop_front.new.self.items done c.put_answer.new.done
    front c.in_ok-put_answer.ensures)
