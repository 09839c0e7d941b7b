use Rattle.std.proofs.Common.{rules, ap, ap₂, ◌∙◌}
use Rattle.jp_answer.specs.Asking.{asked_query}
use Rattle.jp_answer.specs.declared.asked.Asked.{Asked}
use Rattle.jp_run.specs.Answered.{manner_in, numbering_of}
use Rattle.jp_run.specs.Manner.{manner}
use Rattle.jp_run.proofs.Ending.{stands_front}
use Rattle.jp_run.proofs.Handing.{told}
use Rattle.jp_run.specs.inner.Jobs.{job_query}
use Rattle.jp_run.proofs.turns.read_blocks.Goals as goal

pub returns-in_err-ring-clause-turned : goal.returns-in_err-ring-clause-turned
returns-in_err-ring-clause-turned g c =
    let going = manner_in g.F.Form.says c.args.job.now.settings in
    let q = job_query c.args.job.now in
    record {
      ready = search rules;
      stands = search rules;
      came = search rules;
      few_lines = search rules;
      reads = search rules;
      prompt = search rules;
      window = search rules;
      fault = told _ _ _ c.from_residual.ensures.1 (λ old sink reads_old reads_new failed h.
          stands_front going q old (g.S.Supply.remaining c.args.source.now) sink
          (g.K.Sink.contents c.args.sink.now) c.args.stream.now h);
    }

-- what is asked of the blocks is what the run is to answer
pub answer_beside-requires-clause-unused : goal.answer_beside-requires-clause-unused
answer_beside-requires-clause-unused g c κs within =
    let numbering = numbering_of c.args.job.now.settings in
    record {
      none = c.new-out.ensures.none;
      bytes = c.new-out.ensures.bytes;
      asks = (
        ap asked_query c.new-out.ensures.asked ∙ c.asked.ensures.query,
        ap (λ (a : Asked). manner numbering (g.F.Form.says a.layout.now) a.policy) c.new-out.ensures.asked
            ∙ ap₂ (λ layout policy. manner numbering (g.F.Form.says layout) policy) c.asked.ensures.layout
            c.asked.ensures.policy,
      );
    }
