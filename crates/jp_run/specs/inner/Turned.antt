-- A working file, which nobody has to believe: a turn of a run, for private clauses alone.
use Rattle.std.specs.Prelude.{◌≡◌, ◌+◌, ◌<◌, ◌≤◌, ◌^◌, false, Result, IfOk, OnOk, IfErr}
use Rattle.jp_output.specs.OutputForm.{OutputForm}
use Rattle.jp_output.specs.declared.layout.Layout.{Layout}
use Rattle.jp_run.specs.Answered.{manner_in}
use Rattle.jp_run.specs.Limits.{max_lines}
use Rattle.jp_run.specs.declared.ends.Sink as sink
use Rattle.jp_run.specs.declared.ends.Supply as supply
use Rattle.jp_run.specs.declared.fault.RunFault.{RunFault}
use Rattle.jp_run.specs.declared.gathering.Came.{Came}
use Rattle.jp_run.specs.declared.job.Job.{Job}
use Rattle.jp_run.specs.declared.stream.Stream.{Stream}
use Rattle.jp_run.specs.inner.Ready.{IsReady, StaysReady}
use Rattle.jp_run.specs.inner.Jobs.{job_query}
use Rattle.jp_run.specs.inner.Turning.{AllNear, AllPrompt, CameSo, IsStanding, StandsOn, StandsToEnd}

module _ {R G S K : Type 0} (says : Layout → OutputForm) (source : supply.Ghosts S) (k : sink.Ghosts K)
  where
    -- a turn may begin
    pub record MayTurn (job : Job R G) (a : S) (u : K) (s : Stream) : Type 0 where
      pub working : source.failed a ≡ false
      pub ready : IsReady k u
      pub standing : IsStanding (manner_in says job.settings) (job_query job)
          (source.remaining a) (k.contents u) s
      pub few_lines : s.buffer.progress.count ≤ max_lines
      pub some_left : 0 < s.left
      pub few : source.reads a + s.left ≤ 2 ^ 63

    -- where a turn leads, and what is said of each read of it
    pub record HasTurned (job : Job R G) (a b : S) (u w : K) (s t : Stream) (result : Result Came RunFault)
        : Type 0 where
      pub ready : StaysReady k w result
      pub stands : OnOk result (StandsOn (manner_in says job.settings) (job_query job)
          (source.remaining a) (source.remaining b) (k.contents u) (k.contents w) s t)
      pub came : IfOk result (CameSo (source.failed b) (source.remaining b))
      pub few_lines : OnOk result (t.buffer.progress.count ≤ max_lines)
      pub reads : source.reads b + t.left ≡ source.reads a + s.left
      pub prompt : AllPrompt (manner_in says job.settings) (job_query job)
          (source.remaining a) (k.contents u) s (source.begun a) (source.begun b)
      pub window : AllNear (manner_in says job.settings) (job_query job)
          (source.remaining a) (k.contents u) s (source.begun a) (source.begun b)
      pub fault : IfErr result (StandsToEnd (manner_in says job.settings) (job_query job)
          (source.remaining a) (source.remaining b) (k.contents u) (k.contents w) (k.failed w) s)
