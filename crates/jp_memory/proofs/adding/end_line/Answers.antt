use Rattle.std.proofs.Common.{◌∙◌}
use Rattle.std.proofs.lemmas.Result.{on_ok_weaker}
use Rattle.jp_memory.proofs.adding.end_line.Goals as goal

pub returns-clause-written : goal.returns-clause-written
returns-clause-written g c = on_ok_weaker c.end.result (λ ended begun before ns has visited.
    ended ∙ g.met.F.Form.writes begun c.args.written.now c.args.line.now.number before
    c.args.line.now.bytes.now ns has visited) c.end.ensures.ended

pub returns-clause-form : goal.returns-clause-form
returns-clause-form g c = λ begun ns visited.
    c.end.ensures.form ∙ g.met.F.Form.form_stays begun c.args.written.now ns visited
