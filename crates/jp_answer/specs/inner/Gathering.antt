-- A working file, which nobody has to believe: what is gathered while blocks are out, for private clauses
-- alone.
use Rattle.std.specs.Prelude.{◌≡◌, ℕ, ◌+◌, ◌≤◌, ◌⊎◌, ◌++◌, List, length, None, All, option_map}
use Rattle.jp_board.specs.Limits.{max_pieces}
use Rattle.jp_doc.specs.Lines.{Line}
use Rattle.jp_pattern.specs.Tests.{Tests, AreRight}
use Rattle.jp_node.specs.declared.visit.Visit as visit
use Rattle.jp_output.specs.OutputForm.{OutputForm}
use Rattle.jp_output.specs.declared.form.Form as form
use Rattle.jp_output.specs.declared.layout.Layout.{Layout}
use Rattle.jp_answer.specs.Answer.{Answer, answer_by, joined}
use Rattle.jp_answer.specs.Asking.{asked_query}
use Rattle.jp_answer.specs.Policy.{stop_in, passed_in}
use Rattle.jp_answer.specs.Queued.{sent_lines, sent_task}
use Rattle.jp_answer.specs.declared.asked.Asked.{Asked}
use Rattle.jp_answer.specs.declared.gathered.Gathered.{Gathered}
use Rattle.jp_answer.specs.declared.on_fault.OnFault.TheVariants.{Stop}
use Rattle.jp_answer.specs.declared.queue.Queue.{Queue}
use Rattle.jp_answer.specs.declared.queue.Sent.{Sent}
use Rattle.jp_answer.specs.declared.task.Task.{Task}

-- what was gathered
abbrev pub gathered_of : Gathered → Answer
gathered_of a = record {
  bytes = a.bytes.items;
  stopped = option_map (λ s. (s.line, s.fault)) a.stopped;
  faulty = a.faulty;
}

-- the answer to lines, of which this is asked
abbrev pub asked_answer : (Layout → OutputForm) → Asked → Tests → List Line → Answer
asked_answer form asked t ls =
    answer_by (form asked.layout.now) asked.policy t (asked_query asked) ls

-- all that is asked of the lines was gathered
pub record IsAllOf (form : Layout → OutputForm) (asked : Asked) (ls : List Line) (done : Gathered) : Type 0
  where
    pub answer : (t : Tests) → AreRight t → asked_answer form asked t ls ≡ gathered_of done
    pub passed : passed_in asked.policy ls ≡ done.faulty

-- the answer to the task was put behind what was gathered
pub record HasPut (form : Layout → OutputForm) (task : Task) (before after : Gathered) : Type 0 where
  pub answer : (t : Tests) → AreRight t → gathered_of after
      ≡ joined (gathered_of before) (asked_answer form task.asked t task.lines)
  pub passed : after.faulty ≡ before.faulty + passed_in task.asked.policy task.lines
  pub stopped : (gathered_of after).stopped ≡ stop_in task.asked.policy task.lines

module _ {F : Type 0} {g : form.Ghosts F} {v : visit.Ghosts F} where
  -- The answer to all lines is what was gathered, then that to the lines of the blocks that are out, and then
  -- that to the rest.
  pub record Gathers (form : Layout → OutputForm) (asked : Asked) (all rest : List Line)
      (out : List (Sent F g v)) (done : Gathered) : Type 0 where
    pub answer : (t : Tests) → AreRight t → asked_answer form asked t all
        ≡ joined (gathered_of done) (asked_answer form asked t (sent_lines out ++ rest))
    pub passed : passed_in asked.policy all ≡ done.faulty + passed_in asked.policy (sent_lines out ++ rest)
    pub asks : All (λ s. (sent_task s).asked ≡ asked) out
    pub stops : ((gathered_of done).stopped ≡ None) ⊎ (asked.policy.on_fault ≡ Stop)
    pub few : length all ≤ max_pieces

  -- some lines are gathered so
  abbrev pub IsGathering : (Layout → OutputForm) → Queue F g v → Gathered → Type 0
  IsGathering form o done = (all : List Line) × (rest : List Line)
      × Gathers form o.asked all rest o.sent.items done

  -- whichever lines are gathered so, they are so afterwards
  abbrev pub GathersOn : (Layout → OutputForm) → Queue F g v → Queue F g v → Gathered → Gathered → Type 0
  GathersOn form o p before after = (all rest : List Line)
      → Gathers form o.asked all rest o.sent.items before → Gathers form o.asked all rest p.sent.items after
