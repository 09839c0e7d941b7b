use Rattle.std.specs.Str.{chars}
use Rattle.jp_check.specs.Plan.{planned_query}
use Rattle.jp_explain.specs.Mark.{MayGoOn}
use Rattle.jp_explain.specs.declared.explanation.Explanation.{Explanation}
use Rattle.jp_c.specs.Options as by
use Rattle.jp_c.proofs.Verdicts.{accepted_so, refused_so, some_so}
use Rattle.jp_c.proofs.jp_check.Goals as goal

pub returns-in-Ok-plan_in : goal.returns-in-Ok-plan_in
returns-in-Ok-plan_in c = accepted_so c.numbers_by-numbers.result (by.numbers_by c.args.decimals)
    c.in-Ok.text.now c.args.query.now c.numbers_by-numbers.ensures c.in-Ok.ensures.cases.0
    (planned_query c.in-Ok-plan_in._plan) c.in-Ok-plan_in.ensures.ok

pub returns : goal.returns
returns c = refused_so c.numbers_by-numbers.result (by.numbers_by c.args.decimals) c.in-Ok.text.now
    c.args.query.now c.numbers_by-numbers.ensures c.in-Ok.ensures.cases.0 c.in-Err.fault
    c.in-Ok-Some.found.mark c.query_code.result c.in-Err.ensures.fault
    (some_so (λ (x : Explanation). MayGoOn c.numbers_by-numbers.result (chars c.in-Ok.text.now) x.mark)
    c.in-Ok-Some.field-0 c.in-Ok-Some.found c.in-Ok-Some.field-0-is c.in-Ok-Some.ensures.mark)
    c.query_code.ensures
