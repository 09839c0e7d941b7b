-- Blocks that are out.
use Rattle.std.specs.Prelude.{◌≡◌, ℕ, List, [], ◌∷◌, ◌++◌}
use Rattle.std.specs.Arc.{arc_value}
use Rattle.jp_doc.specs.Lines.{Line}
use Rattle.jp_output.specs.declared.form.Form as form
use Rattle.jp_node.specs.declared.visit.Visit as visit
use Rattle.jp_answer.specs.declared.queue.Queue.{Queue}
use Rattle.jp_answer.specs.declared.queue.Sent.{Sent}
use Rattle.jp_answer.specs.declared.task.Task.{Task}

module _ {F : Type 0} {g : form.Ghosts F} {v : visit.Ghosts F} where
  -- the task of a block that is out
  abbrev pub sent_task : Sent F g v → Task
  sent_task s = (arc_value s.block).task

  -- the lines of the blocks that are out
  abbrev pub sent_lines : List (Sent F g v) → List Line
  sent_lines [] = []
  sent_lines (s ∷ rest) = (sent_task s).lines ++ sent_lines rest

  -- one more block is out, with these lines, of which is asked what the queue asks
  pub record HasSent (ls : List Line) (n : ℕ) (o p : Queue F g v) : Type 0 where
    pub sent : Sent F g v
    pub out : p.sent.items ≡ o.sent.items ++ sent ∷ []
    pub lines : (sent_task sent).lines ≡ ls
    pub asked : (sent_task sent).asked ≡ o.asked
    pub bytes : sent.bytes ≡ n
