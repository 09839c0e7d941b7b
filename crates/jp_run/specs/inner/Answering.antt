-- A working file, which nobody has to believe: lines that are answered on the calling thread, for private
-- clauses alone.
use Rattle.std.specs.Prelude.{◌≡◌, List, None, Result, IfOk, OnOk, IfErr}
use Rattle.jp_doc.specs.Lines.{Line}
use Rattle.jp_output.specs.OutputForm.{OutputForm}
use Rattle.jp_output.specs.declared.layout.Layout.{Layout}
use Rattle.jp_run.specs.Answered.{manner_in, passed_in}
use Rattle.jp_run.specs.Handed.{Handed}
use Rattle.jp_run.specs.declared.ends.Sink as sink
use Rattle.jp_run.specs.declared.fault.RunFault.{RunFault}
use Rattle.jp_run.specs.declared.job.Job.{Job}
use Rattle.jp_run.specs.declared.stream.Passed.{Passed}
use Rattle.jp_run.specs.inner.Ended.{AnswerEnded}
use Rattle.jp_run.specs.inner.Ready.{StaysReady}
use Rattle.jp_run.specs.inner.Jobs.{job_query}
use Rattle.jp_run.specs.inner.Wrote.{HasBytes}

-- the answer to the lines is handed to the sink, and it is told what they add to what is counted
pub record HasHandedOut {R G K : Type 0} (says : Layout → OutputForm) (k : sink.Ghosts K) (job : Job R G)
    (ls : List Line) (u w : K) (result : Result Passed RunFault) : Type 0 where
  pub ready : StaysReady k w result
  pub handed : OnOk result (Handed (manner_in says job.settings) (job_query job) ls None
      (k.contents u) (k.contents w))
  pub passed : IfOk result (λ p. p.faulty ≡ passed_in job.settings ls)
  pub wrote : IfOk result (λ p. HasBytes (manner_in says job.settings) (job_query job) ls
      p.wrote)
  pub fault : IfErr result (AnswerEnded (manner_in says job.settings) (job_query job) ls
      (k.failed w) (k.contents u) (k.contents w))
