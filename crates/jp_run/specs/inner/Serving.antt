-- A working file, which nobody has to believe: a step of a run while blocks are out, for private clauses
-- alone.
use Rattle.std.specs.Prelude.{◌≡◌, ◌+◌, ◌≤◌, [], length, None, Result, OnOk, IfErr}
use Rattle.jp_output.specs.declared.form.Form as form
use Rattle.jp_answer.below.jp_node.specs.declared.visit.Visit as visit
use Rattle.jp_answer.specs.Queued.{sent_task}
use Rattle.jp_answer.specs.declared.queue.Queue.{Queue}
use Rattle.jp_answer.specs.declared.queue.Sent.{Sent}
use Rattle.jp_run.specs.Answered.{manner_in, numbering_of}
use Rattle.jp_run.specs.Handed.{Handed}
use Rattle.jp_run.specs.Limits.{max_lines}
use Rattle.jp_run.specs.declared.ends.Sink as sink
use Rattle.jp_run.specs.declared.fault.RunFault.{RunFault}
use Rattle.jp_run.specs.declared.job.Job.{Job}
use Rattle.jp_run.specs.declared.stream.Stream.{Stream}
use Rattle.jp_run.specs.inner.Ended.{AnswerEnded}
use Rattle.jp_run.specs.inner.Going.{AsksSo, GoesOn, GoesToEnd, HasWritten, IsGoing, manner_asked}
use Rattle.jp_answer.specs.Asking.{asked_query}
use Rattle.jp_run.specs.inner.Jobs.{job_query}
use Rattle.jp_run.specs.inner.Ready.{IsReady, StaysReady}

-- the answer to a block may be written
pub record MayWrite {K F : Type 0} (k : sink.Ghosts K) {g : form.Ghosts F} {v : visit.Ghosts F} (u : K)
    (s : Stream) (front : Sent F g v) : Type 0 where
  pub ready : IsReady k u
  pub few_lines : s.answered.lines + length (sent_task front).lines ≤ max_lines
  pub few_faulty : s.answered.faulty ≤ s.answered.lines
  pub come : front.bytes ≤ s.come

module _ {R G K F : Type 0} (k : sink.Ghosts K) {g : form.Ghosts F} {v : visit.Ghosts F} where
  -- a step may be taken
  pub record MayServe (job : Job R G) (u : K) (s : Stream) (o : Queue F g v) : Type 0 where
    pub ready : IsReady k u
    pub going : IsGoing (manner_in g.says job.settings) (job_query job) (k.contents u) s o
    pub few_lines : s.buffer.progress.count ≤ max_lines

  -- where a step leads, which neither reads nor asks anything else
  pub record HasServed {T : Type 0} (job : Job R G) (u w : K) (s t : Stream) (o p : Queue F g v)
      (result : Result T RunFault) : Type 0 where
    pub ready : StaysReady k w result
    pub going : OnOk result (GoesOn (manner_in g.says job.settings) (job_query job)
        (k.contents u) (k.contents w) s t o p)
    pub progress : OnOk result (t.buffer.progress ≡ s.buffer.progress)
    pub asked : p.asked ≡ o.asked
    pub left : t.left ≡ s.left
    pub fault : IfErr result (GoesToEnd (manner_in g.says job.settings) (job_query job)
        (k.contents u) (k.contents w) (k.failed w) s o)

  -- it is written, as the block asks, and counted
  pub record HasWrittenBlock {T : Type 0} (job : Job R G) (front : Sent F g v) (u w : K) (s t : Stream)
      (result : Result T RunFault) : Type 0 where
    pub ready : StaysReady k w result
    pub handed : OnOk result (Handed (manner_asked g (numbering_of job.settings) (sent_task front).asked)
        (asked_query (sent_task front).asked) (sent_task front).lines None (k.contents u)
        (k.contents w))
    pub written : OnOk result (HasWritten (manner_asked g (numbering_of job.settings) (sent_task front).asked)
        (asked_query (sent_task front).asked) front s t)
    pub left : t.left ≡ s.left
    pub fault : IfErr result (AnswerEnded (manner_asked g (numbering_of job.settings) (sent_task front).asked)
        (asked_query (sent_task front).asked) (sent_task front).lines (k.failed w)
        (k.contents u) (k.contents w))

-- no block is out, and what the run asks is asked of further ones
pub record IsUnused {R G F : Type 0} {g : form.Ghosts F} {v : visit.Ghosts F} (job : Job R G)
    (o : Queue F g v) : Type 0 where
  pub none : o.sent.items ≡ []
  pub bytes : o.bytes ≡ 0
  pub asks : AsksSo (manner_in g.says job.settings) (job_query job) o
