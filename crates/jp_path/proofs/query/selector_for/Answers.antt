use Rattle.std.proofs.Common.{rules}
use Rattle.std.proofs.Common.{sym, subst}
use Rattle.jp_doc.specs.Location.{step_of}
use Rattle.jp_doc.specs.declared.location.Step as code
use Rattle.jp_path.specs.PathQuery.{IsStep}
use Rattle.jp_path.proofs.SourceSteps.{text_is_scalar}
use Rattle.jp_path.proofs.query.selector_for.Goals as goal

pub returns-in_ok-from_str-in-Name-clause-step : goal.returns-in_ok-from_str-in-Name-clause-step
returns-in_ok-from_str-in-Name-clause-step c = subst (λ (s : code.Step). IsStep (step_of s))
    (sym c.in-Name.is) (text_is_scalar c.in-Name.name)

pub returns-in_ok-index_text-in-Index-clause-selector : goal.returns-in_ok-index_text-in-Index-clause-selector
returns-in_ok-index_text-in-Index-clause-selector c = search rules
