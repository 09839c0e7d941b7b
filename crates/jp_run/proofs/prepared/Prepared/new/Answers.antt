use Rattle.jp_check.specs.Plan.{planned_query}
use Rattle.jp_run.specs.AskedTexts.{texts}
use Rattle.jp_run.proofs.Accepted.{filter_preparing}
use Rattle.jp_run.proofs.prepared.Prepared.new.Goals as goal

pub returns-in_err-filter-clause-fault : goal.returns-in_err-filter-clause-fault
returns-in_err-filter-clause-fault c =
    filter_preparing c.args.numbers (texts c.args.query.now c.args.filter) (planned_query c.in_ok-plan.plan) _
    _
    c.from_residual-in_err-filter.ensures.1 c.in_ok-plan.ensures.ok c.in_err-filter.ensures.fault
