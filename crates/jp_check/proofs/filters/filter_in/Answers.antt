use Rattle.std.proofs.Common.{◌≡◌, None, ap, ◌∙◌}
use Rattle.std.specs.Str.{chars}
use Rattle.jp_check.specs.Plan.{planned_query}
use Rattle.jp_check.proofs.FilterVerdicts.{nothing, more_refused}
use Rattle.jp_check.proofs.filters.filter_in.Goals as goal

pub returns-then-is_none-clause-fault : goal.returns-then-is_none-clause-fault
returns-then-is_none-clause-fault c = λ other.
    let none : c.only_filter.result ≡ None =
    nothing c.only_filter.result c.is_none.result c.is_none.ensures c.if-is_none.true in
    let other_shape = rw none at c.only_filter.ensures in
    more_refused c.args.numbers (chars c.args.text.now) (chars c.as_str.result.now)
    (planned_query c.in_ok-plan.plan) (ap chars c.as_str.ensures.value ∙ c.in_ok-query.ensures)
    c.in_ok-plan.ensures.ok (λ l e. other_shape l (c.compiled.ensures ∙ e))
