use Rattle.std.proofs.Common.{◌≡◌, ◌+◌, ◌≤◌, false}
use Rattle.jp_run.specs.Answered.{manner_in}
use Rattle.jp_run.specs.Begun.{AllSince}
use Rattle.jp_run.specs.Limits.{max_lines, max_reads, window as window_bytes}
use Rattle.jp_run.specs.inner.Ready.{IsReady}
use Rattle.jp_run.specs.inner.Standing.{Stands, BeginsPrompt, BeginsNear}
use Rattle.jp_run.specs.inner.Jobs.{job_query}
use Rattle.jp_run.proofs.running.answer_stream.Given as goal

abbrev pub invariant-loop-stream : goal.invariant-loop-stream
invariant-loop-stream g l =
    let going = manner_in g.F.Form.says l.job.settings in
    let q = job_query l.job in
    let input = g.S.Supply.remaining l.fn.source in
    let output = g.K.Sink.contents l.fn.sink in
    record {
      source_working : g.S.Supply.failed l.source ≡ false;
      ready : IsReady g.K.Sink l.sink;
      stands : Stands going q input (g.S.Supply.remaining l.source) output (g.K.Sink.contents l.sink)
          l.stream;
      few_lines : l.stream.buffer.progress.count ≤ max_lines;
      reads : g.S.Supply.reads l.source + l.stream.left ≡ g.S.Supply.reads l.fn.source + max_reads;
      prompt : AllSince (g.S.Supply.begun l.fn.source) (g.S.Supply.begun l.source)
          (BeginsPrompt going q input output);
      window : AllSince (g.S.Supply.begun l.fn.source) (g.S.Supply.begun l.source)
          (BeginsNear window_bytes going q input output);
    }

abbrev pub decreases-loop-stream : goal.decreases-loop-stream
decreases-loop-stream g l = l.stream.left
