use Rattle.std.proofs.Common.{refl}
use Rattle.jp_run.specs.declared.fault.RunFault.TheVariants.{Query, Filter}
use Rattle.jp_tree.specs.declared.fault.QueryFault.TheVariants.{TooDeep}
use Rattle.jp_run.proofs.Runs.{accepted_ok, asked_so, never_err}
use Rattle.jp_run.proofs.Accepted.{filter_refused_so, no_filter_refused, none_refused, refusal_told}
use Rattle.jp_run.proofs.Accepted.{refused_so}
use Rattle.jp_run.proofs.running.run.Goals as goal

pub returns-in_err-prepared-clause-query : goal.returns-in_err-prepared-clause-query
returns-in_err-prepared-clause-query g c = λ f e. (
  refusal_told _ _ _ refl (Query f) _ _ c.from_residual.ensures.1 c.in_err-prepared.ensures.fault
      (λ memory. cc) e,
  refl,
  refl,
)

pub returns-in_err-prepared-clause-refused : goal.returns-in_err-prepared-clause-refused
returns-in_err-prepared-clause-refused g c = λ f v. (
  refused_so _ _ _ refl (Query f) _ _ c.from_residual.ensures.1 c.in_err-prepared.ensures.fault
      v,
  refl,
  refl,
)

pub returns-in_err-prepared-clause-filter : goal.returns-in_err-prepared-clause-filter
returns-in_err-prepared-clause-filter g c = λ f e. (
  refusal_told _ _ _ refl (Filter f) _ _ c.from_residual.ensures.1
      c.in_err-prepared.ensures.fault
      (λ memory. cc) e,
  refl,
  refl,
)

pub returns-in_err-prepared-clause-filter_refused : goal.returns-in_err-prepared-clause-filter_refused
returns-in_err-prepared-clause-filter_refused g c = λ f v. (
  filter_refused_so _ _ _ refl f _ _ c.from_residual.ensures.1 c.in_err-prepared.ensures.fault v,
  refl,
  refl,
)

pub returns-clause-accepted : goal.returns-clause-accepted
returns-clause-accepted g c =
    accepted_ok refl c.in_ok-prepared.ensures.ok c.run.result

pub returns-clause-refused : goal.returns-clause-refused
returns-clause-refused g c = λ f v.
    none_refused _ _ _ refl _ (Query f) c.in_ok-prepared.ensures.ok v

pub returns-clause-filter_refused : goal.returns-clause-filter_refused
returns-clause-filter_refused g c = λ f v.
    no_filter_refused _ _ _ refl _ f c.in_ok-prepared.ensures.ok v

pub returns-clause-answer : goal.returns-clause-answer
returns-clause-answer g c =
    (asked_so refl c.in_ok-prepared.ensures.ok c.run.ensures.ran).answer

pub returns-clause-counts : goal.returns-clause-counts
returns-clause-counts g c =
    (asked_so refl c.in_ok-prepared.ensures.ok c.run.ensures.ran).counts

pub returns-clause-faulty : goal.returns-clause-faulty
returns-clause-faulty g c =
    (asked_so refl c.in_ok-prepared.ensures.ok c.run.ensures.ran).faulty

pub returns-clause-none_passed : goal.returns-clause-none_passed
returns-clause-none_passed g c =
    (asked_so refl c.in_ok-prepared.ensures.ok c.run.ensures.ran).none_passed

pub returns-clause-wrote : goal.returns-clause-wrote
returns-clause-wrote g c =
    (asked_so refl c.in_ok-prepared.ensures.ok c.run.ensures.ran).wrote

pub returns-clause-few_lines : goal.returns-clause-few_lines
returns-clause-few_lines g c =
    (asked_so refl c.in_ok-prepared.ensures.ok c.run.ensures.ran).few_lines

pub returns-clause-end : goal.returns-clause-end
returns-clause-end g c =
    (asked_so refl c.in_ok-prepared.ensures.ok c.run.ensures.ran).end

pub returns-clause-flushed : goal.returns-clause-flushed
returns-clause-flushed g c =
    (asked_so refl c.in_ok-prepared.ensures.ok c.run.ensures.ran).flushed

pub returns-clause-still_working : goal.returns-clause-still_working
returns-clause-still_working g c =
    (asked_so refl c.in_ok-prepared.ensures.ok c.run.ensures.ran).still_working

pub returns-clause-passed_on : goal.returns-clause-passed_on
returns-clause-passed_on g c =
    (asked_so refl c.in_ok-prepared.ensures.ok c.run.ensures.ran).passed_on

pub returns-clause-document : goal.returns-clause-document
returns-clause-document g c =
    (asked_so refl c.in_ok-prepared.ensures.ok c.run.ensures.ran).document

pub returns-clause-goes_on : goal.returns-clause-goes_on
returns-clause-goes_on g c =
    (asked_so refl c.in_ok-prepared.ensures.ok c.run.ensures.ran).goes_on

pub returns-clause-prompt : goal.returns-clause-prompt
returns-clause-prompt g c =
    (asked_so refl c.in_ok-prepared.ensures.ok c.run.ensures.ran).prompt

pub returns-clause-window : goal.returns-clause-window
returns-clause-window g c =
    (asked_so refl c.in_ok-prepared.ensures.ok c.run.ensures.ran).window

pub returns-clause-read : goal.returns-clause-read
returns-clause-read g c =
    (asked_so refl c.in_ok-prepared.ensures.ok c.run.ensures.ran).read

pub returns-clause-write : goal.returns-clause-write
returns-clause-write g c =
    (asked_so refl c.in_ok-prepared.ensures.ok c.run.ensures.ran).write

pub returns-clause-limit : goal.returns-clause-limit
returns-clause-limit g c =
    (asked_so refl c.in_ok-prepared.ensures.ok c.run.ensures.ran).limit

pub returns-clause-few : goal.returns-clause-few
returns-clause-few g c =
    (asked_so refl c.in_ok-prepared.ensures.ok c.run.ensures.ran).few

pub returns-clause-front : goal.returns-clause-front
returns-clause-front g c =
    (asked_so refl c.in_ok-prepared.ensures.ok c.run.ensures.ran).front

pub returns-clause-settings : goal.returns-clause-settings
returns-clause-settings g c =
    (asked_so refl c.in_ok-prepared.ensures.ok c.run.ensures.ran).settings_fine

pub returns-clause-query : goal.returns-clause-query
returns-clause-query g c = λ f e.
    absurd ((asked_so refl c.in_ok-prepared.ensures.ok c.run.ensures.ran).taken (Query f) e refl)

pub returns-clause-filter : goal.returns-clause-filter
returns-clause-filter g c = λ f e.
    absurd ((asked_so refl c.in_ok-prepared.ensures.ok c.run.ensures.ran).taken (Filter f) e refl)

pub returns-clause-too_deep : goal.returns-clause-too_deep
returns-clause-too_deep g c = (
  λ e. absurd ((asked_so refl c.in_ok-prepared.ensures.ok c.run.ensures.ran).taken
      (Query TooDeep) e refl),
  λ deep. never_err (c.in_ok-prepared.ensures.too_deep.1 deep),
)
