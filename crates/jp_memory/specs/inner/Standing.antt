-- A working file, which nobody has to believe: how far an input is answered, for private clauses alone.
use Rattle.std.specs.Prelude.{◌≡◌, ℕ, ◌≤◌, ◌++◌, List, []}
use Rattle.jp_pattern.specs.Tests.{Tests, AreRight}
use Rattle.jp_output.specs.OutputForm.{OutputForm}
use Rattle.jp_answer.specs.Answer.{Answer, answer_by}
use Rattle.jp_answer.specs.Asking.{asked_query}
use Rattle.jp_answer.specs.declared.asked.Asked.{Asked}
use Rattle.jp_run.specs.Cutting.{Numbering, documents_in, progress_in}
use Rattle.jp_run.specs.Limits.{max_lines}
use Rattle.jp_memory.specs.inner.Input.{Input}

-- all documents whose end is in a front of the input are answered so, and none waits
pub record Stands (form : OutputForm) (asked : Asked) (n : Numbering) (input rest : List ℕ) (b : Input)
    (a : Answer) : Type 0 where
  pub front : List ℕ
  pub whole : front ++ rest ≡ input
  pub cutting : b.cutting ≡ n.cutting
  pub progress : b.progress ≡ progress_in n front
  pub none : b.lines ≡ []
  pub few_lines : b.progress.count ≤ max_lines
  pub few_faulty : a.faulty ≤ b.progress.count
  pub answer : (t : Tests) → AreRight t
      → answer_by form asked.policy t (asked_query asked) (documents_in n front) ≡ a
