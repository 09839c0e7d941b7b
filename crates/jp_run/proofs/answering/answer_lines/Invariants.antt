use Rattle.std.proofs.Common.{◌≡◌, ◌-◌, ◌≤◌, None, map, length, take}
use Rattle.jp_buffer.specs.Buffered.{line_at}
use Rattle.jp_run.specs.Answered.{manner_in, passed_in}
use Rattle.jp_run.specs.Handed.{Handed}
use Rattle.jp_run.specs.inner.Ready.{IsReady}
use Rattle.jp_run.specs.inner.Wrote.{HasBytes}
use Rattle.jp_run.specs.inner.Jobs.{job_query}
use Rattle.jp_run.proofs.answering.answer_lines.Given as goal

abbrev pub invariant-loop-done : goal.invariant-loop-done
invariant-loop-done g l =
    let before = take l.done (map line_at l.lines) in
    record {
      ready : IsReady g.K.Sink l.sink;
      within : l.done ≤ length l.lines;
      handed : Handed (manner_in g.F.Form.says l.job.settings) (job_query l.job) before None
          (g.K.Sink.contents l.fn.sink) (g.K.Sink.contents l.sink);
      passed : l.faulty ≡ passed_in l.job.settings before;
      wrote : HasBytes (manner_in g.F.Form.says l.job.settings) (job_query l.job) before
          l.wrote;
    }

abbrev pub decreases-loop-done : goal.decreases-loop-done
decreases-loop-done g l = length l.lines - l.done
