use Rattle.std.proofs.Common.{◌∙◌, ap, sym, subst}
use Rattle.std.specs.Str.{chars}
use Rattle.jp_tree.specs.Tree.{Text}
use Rattle.jp_check.specs.Plan.{planned_query}
use Rattle.jp_check.specs.Verdict.{IsAccepted}
use Rattle.jp_path.proofs.examples.query_and_plan.Goals as goal

pub returns : goal.returns
returns c =
    sym (c.in_ok-query.ensures.only (planned_query c.in_ok-plan.plan)
    (subst (λ (t : Text). IsAccepted t (planned_query c.in_ok-plan.plan)) (ap chars c.as_str.ensures.value
    ∙ c.in_ok-text.ensures) c.in_ok-plan.ensures.ok))
