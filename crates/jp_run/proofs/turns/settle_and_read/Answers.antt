use Rattle.std.proofs.Common.{rules}
use Rattle.jp_run.specs.Answered.{manner_in}
use Rattle.jp_run.specs.Limits.{window as window_bytes}
use Rattle.jp_run.specs.inner.Standing.{BeginsPrompt, BeginsNear}
use Rattle.jp_run.proofs.Ending.{waiting_ended, limit_ended}
use Rattle.jp_run.proofs.Handing.{told}
use Rattle.jp_run.proofs.Readings.{one_more}
use Rattle.jp_run.proofs.Standing.{are_counted, settled, begins_prompt, begins_near}
use Rattle.jp_run.proofs.Turning.{came_so, came_stands}
use Rattle.jp_run.specs.inner.Jobs.{job_query}
use Rattle.jp_run.proofs.turns.settle_and_read.Goals as goal

pub settle-requires-clause-counted : goal.settle-requires-clause-counted
settle-requires-clause-counted g c κs within =
    let going = manner_in g.F.Form.says c.args.job.now.settings in
    let q = job_query c.args.job.now in
    let u = g.K.Sink.contents c.args.sink.now in
    let now = g.S.Supply.remaining c.args.source.now in
    let st = c.args.stream.now in
    let h = c.requires.turning.standing in
    are_counted going q h.0 now h.1 u st h.2 c.requires.turning.few_lines

pub returns-in_err-settle-clause-turned : goal.returns-in_err-settle-clause-turned
returns-in_err-settle-clause-turned g c =
    let going = manner_in g.F.Form.says c.args.job.now.settings in
    let q = job_query c.args.job.now in
    let u = g.K.Sink.contents c.args.sink.now in
    let now = g.S.Supply.remaining c.args.source.now in
    let st = c.args.stream.now in
    record {
      ready = search rules;
      stands = search rules;
      came = search rules;
      few_lines = search rules;
      reads = search rules;
      prompt = search rules;
      window = search rules;
      fault = told _ _ _ c.from_residual.ensures.1 (λ old sink reads_old reads_new failed h.
          waiting_ended going q _ now u st _ h c.in_err-settle.ensures.fault);
    }

pub returns-in_err-came-clause-turned : goal.returns-in_err-came-clause-turned
returns-in_err-came-clause-turned g c =
    let going = manner_in g.F.Form.says c.args.job.now.settings in
    let q = job_query c.args.job.now in
    let u = g.K.Sink.contents c.args.sink.now in
    let now = g.S.Supply.remaining c.args.source.now in
    let st = c.args.stream.now in
    record {
      ready = search rules;
      stands = search rules;
      came = search rules;
      few_lines = search rules;
      reads = search rules;
      prompt = λ old sink first h m. one_more (BeginsPrompt going q old sink) _ _ _ _ _ m
          c.settle.ensures.begun c.read_on.ensures.begun (begins_prompt going q _ _ _ _ _
          (settled going q old now sink u st h _ _ _ c.settle.ensures.bytes c.in_ok-settle.ensures.settled) _
          _
          c.in_ok-settle.ensures.prompt c.in_ok-settle.ensures.ready.flushed);
      window = λ old sink first h m. one_more (BeginsNear window_bytes going q old sink) _ _ _ _ _ m
          c.settle.ensures.begun c.read_on.ensures.begun (begins_near going q _ _ _ _ _
          (settled going q old now sink u st h _ _ _ c.settle.ensures.bytes c.in_ok-settle.ensures.settled)
          window_bytes (g.S.Supply.told_ready c.settle.new.source) (g.K.Sink.flushed c.settle.new.sink)
          c.in_ok-settle.ensures.near);
      fault = told _ _ _ c.from_residual-in_err-came.ensures.1 (λ old sink reads_old reads_new failed h.
          limit_ended going q _ _ _ _ (settled going q old now sink u st h _ _ _ c.settle.ensures.bytes
          c.in_ok-settle.ensures.settled) c.in_err-came.ensures.fault);
    }

pub returns-clause-turned : goal.returns-clause-turned
returns-clause-turned g c =
    let going = manner_in g.F.Form.says c.args.job.now.settings in
    let q = job_query c.args.job.now in
    let u = g.K.Sink.contents c.args.sink.now in
    let now = g.S.Supply.remaining c.args.source.now in
    let st = c.args.stream.now in
    record {
      ready = search rules;
      stands = λ old sink h. came_stands going q old _ _ sink _ _ _ _ _ c.in_ok-came.ensures.came
          (settled going q old now sink u st h _ _ _ c.settle.ensures.bytes c.in_ok-settle.ensures.settled);
      came = came_so _ _ _ _ _ _ c.in_ok-came.ensures.came;
      few_lines = search rules;
      reads = search rules;
      prompt = λ old sink first h m. one_more (BeginsPrompt going q old sink) _ _ _ _ _ m
          c.settle.ensures.begun c.read_on.ensures.begun (begins_prompt going q _ _ _ _ _
          (settled going q old now sink u st h _ _ _ c.settle.ensures.bytes c.in_ok-settle.ensures.settled) _
          _
          c.in_ok-settle.ensures.prompt c.in_ok-settle.ensures.ready.flushed);
      window = λ old sink first h m. one_more (BeginsNear window_bytes going q old sink) _ _ _ _ _ m
          c.settle.ensures.begun c.read_on.ensures.begun (begins_near going q _ _ _ _ _
          (settled going q old now sink u st h _ _ _ c.settle.ensures.bytes c.in_ok-settle.ensures.settled)
          window_bytes (g.S.Supply.told_ready c.settle.new.source) (g.K.Sink.flushed c.settle.new.sink)
          c.in_ok-settle.ensures.near);
      fault = search rules;
    }
