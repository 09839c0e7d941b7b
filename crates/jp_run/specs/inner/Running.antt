-- A working file, which nobody has to believe: a run of a query that is read, in some manner, for private
-- clauses alone.
use Rattle.std.specs.Prelude.{◌≡◌, ◌+◌, ◌≤◌, false, true, length, None, Result, IfOk, OnOk, IfErr, IfSome}
use Rattle.std.specs.Io.KnownBytes.{IsAtEnd}
use Rattle.jp_answer.specs.declared.on_fault.OnFault.TheVariants.{Stop}
use Rattle.jp_run.specs.Answered.{numbering_of, passed_in}
use Rattle.jp_run.specs.Begun.{AllSince}
use Rattle.jp_run.specs.Cutting.{documents, part_count}
use Rattle.jp_run.specs.Handed.{Handed}
use Rattle.jp_run.specs.Limits.{max_lines, max_reads, window as window_bytes}
use Rattle.jp_run.specs.Manner.{Manner}
use Rattle.jp_run.specs.Written.{IsPassedOn}
use Rattle.jp_run.specs.declared.ends.Sink as sink
use Rattle.jp_run.specs.declared.ends.Supply as supply
use Rattle.jp_run.specs.declared.fault.RunFault.{RunFault}
use Rattle.jp_run.specs.declared.job.Job.{Job}
use Rattle.jp_run.specs.declared.running.Totals.{Totals}
use Rattle.jp_run.specs.inner.Ended.{StreamEnded}
use Rattle.jp_run.specs.inner.Standing.{BeginsNear, BeginsPrompt}
use Rattle.jp_run.specs.inner.Jobs.{job_query}
use Rattle.jp_run.specs.inner.Wrote.{HasBytes}

-- the source was read to its end, and what came is answered, or a fault ended that
pub record HasRun {R G S K : Type 0} (going : Manner) (source : supply.Ghosts S) (k : sink.Ghosts K)
    (job : Job R G) (a b : S) (u w : K) (result : Result Totals RunFault) : Type 0 where
  pub handed : OnOk result (IfSome (source.remaining a) (λ input. Handed going
      (job_query job) (documents (numbering_of job.settings) input) None (k.contents u)
      (k.contents w)))
  pub counts : IfOk result (λ totals. IfSome (source.remaining a)
      (λ input. (totals.lines ≡ part_count job.settings.cutting input)
      × (totals.documents ≡ length (documents (numbering_of job.settings) input))))
  pub passed : IfOk result (λ totals. IfSome (source.remaining a)
      (λ input. totals.faulty ≡ passed_in job.settings (documents (numbering_of job.settings) input)))
  pub none_passed : job.settings.on_fault ≡ Stop → IfOk result (λ totals. totals.faulty ≡ 0)
  pub wrote : IfOk result (λ totals. IfSome (source.remaining a) (λ input. HasBytes going
      (job_query job) (documents (numbering_of job.settings) input) totals.wrote))
  pub few_lines : IfOk result (λ totals. totals.lines ≤ max_lines)
  pub end : OnOk result (IsAtEnd (source.remaining b))
  pub flushed : OnOk result (k.flushed w ≡ true)
  pub still_working : OnOk result ((source.failed b ≡ false) × (k.failed w ≡ false))
  pub passed_on : k.flushed u ≡ true → IsPassedOn (k.flushed w) (k.failed w)
  pub fault : IfErr result (StreamEnded going (job_query job) (record {
    source_old = source.remaining a;
    source_new = source.remaining b;
    reads_old = source.reads a;
    reads_new = source.reads b;
    source_failed = source.failed b;
    sink_old = k.contents u;
    sink_new = k.contents w;
    sink_failed = k.failed w;
  }))
  pub prompt : AllSince (source.begun a) (source.begun b) (BeginsPrompt going
      (job_query job) (source.remaining a) (k.contents u))
  pub window : AllSince (source.begun a) (source.begun b) (BeginsNear window_bytes going
      (job_query job) (source.remaining a) (k.contents u))
  pub few : source.reads b ≤ source.reads a + max_reads
