use Rattle.std.proofs.Common.{subst, string_bytes, length, ap}
use Rattle.jp_check.specs.Plan.{planned_query}
use Rattle.jp_c.specs.Buffers.{IsFilledBy}
use Rattle.jp_c.specs.Options as by
use Rattle.jp_c.proofs.Verdicts.{accepted_unsaid, explained_so}
use Rattle.jp_c.proofs.jp_explain.Goals as goal

pub returns-in-Ok-plan_in : goal.returns-in-Ok-plan_in
returns-in-Ok-plan_in c = accepted_unsaid c.numbers_by-numbers.result (by.numbers_by c.args.decimals)
    c.in-Ok.text.now c.args.query.now c.numbers_by-numbers.ensures c.in-Ok.ensures.cases.0 c.args.out.now
    (planned_query c.in-Ok-plan_in._plan) c.in-Ok-plan_in.ensures.ok

pub returns : goal.returns
returns c = explained_so c.numbers_by-numbers.result (by.numbers_by c.args.decimals) c.in-Ok.text.now
    c.args.query.now c.numbers_by-numbers.ensures c.in-Ok.ensures.cases.0 c.args.out.now
    c.copy_front.new.buffer
    (string_bytes c.in-Ok-write_mark.lines) _ c.query_code.result c.in-Err.fault
    c.in-Err.ensures.fault c.in-Ok-write_mark.ensures.shown
    (subst (λ b. IsFilledBy b c.args.out.now c.copy_front.new.buffer) c.as_bytes-bytes.ensures.value
    c.copy_front.ensures)
    (ap length c.as_bytes-bytes.ensures.value) c.query_code.ensures
