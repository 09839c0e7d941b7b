-- What a task is answered with.
use Rattle.std.specs.Prelude.{◌≡◌, List}
use Rattle.jp_doc.specs.Lines.{Line}
use Rattle.jp_pattern.specs.Tests.{Tests, AreRight}
use Rattle.jp_output.specs.OutputForm.{OutputForm}
use Rattle.jp_output.specs.declared.layout.Layout.{Layout}
use Rattle.jp_answer.specs.Answer.{answer_by}
use Rattle.jp_answer.specs.Answered.{outcome_of}
use Rattle.jp_answer.specs.Asking.{asked_query}
use Rattle.jp_answer.specs.FilteredQuery.{FilteredQuery}
use Rattle.jp_answer.specs.Policy.{stop_in, passed_in}
use Rattle.jp_answer.specs.declared.outcome.Outcome.{Outcome}
use Rattle.jp_answer.specs.declared.policy.LinePolicy.{LinePolicy}
use Rattle.jp_answer.specs.declared.task.Task.{Task}

-- this is the answer to the lines, in a form, by a policy
pub record IsAnswerTo (form : OutputForm) (p : LinePolicy) (q : FilteredQuery) (ls : List Line) (a : Outcome)
    : Type 0 where
  pub answer : (t : Tests) → AreRight t → answer_by form p t q ls ≡ outcome_of a
  pub stopped : stop_in p ls ≡ (outcome_of a).stopped
  pub passed : passed_in p ls ≡ a.faulty

-- this is the answer to the task, in a form with the layout that is asked for
abbrev pub IsTaskAnswer : (Layout → OutputForm) → Task → Outcome → Type 0
IsTaskAnswer form t a =
    IsAnswerTo (form t.asked.layout.now) t.asked.policy (asked_query t.asked) t.lines a
