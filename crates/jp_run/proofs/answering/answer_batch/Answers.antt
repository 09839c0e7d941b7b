use Rattle.std.proofs.Common.{map, rules}
use Rattle.jp_buffer.specs.Buffered.{line_at}
use Rattle.jp_answer.specs.Answered.{outcome_of}
use Rattle.jp_run.specs.Answered.{manner_in}
use Rattle.jp_run.proofs.Handing.{told, handing_done, ended_handing}
use Rattle.jp_run.proofs.Wrote.{wrote_whole}
use Rattle.jp_run.specs.inner.Jobs.{job_query}
use Rattle.jp_run.proofs.answering.answer_batch.Goals as goal

pub returns-in_err-hand_out : goal.returns-in_err-hand_out
returns-in_err-hand_out g c = record {
  handed_out = record {
    ready = search rules;
    handed = search rules;
    passed = search rules;
    wrote = search rules;
    fault = told _ _ _ c.from_residual-in_err-hand_out.ensures.1
        (ended_handing _ _ _ (outcome_of c.in_ok-answer.answer) c.in_ok-answer.ensures.answer _ _ _ _
        c.in_err-hand_out.ensures.fault);
  };
}

pub returns : goal.returns
returns g c = record {
  handed_out = record {
    ready = search rules;
    handed = handing_done _ _ _ (outcome_of c.in_ok-answer.answer)
        c.in_ok-answer.ensures.answer _ _ c.in_ok-hand_out.ensures.whole c.in_ok-hand_out.ensures.ok;
    passed = search rules;
    wrote = wrote_whole (manner_in g.F.Form.says c.args.job.now.settings)
        (job_query c.args.job.now) (map line_at c.args.lines.now)
        (outcome_of c.in_ok-answer.answer) _ c.in_ok-answer.ensures.answer c.byte_count.ensures;
    fault = search rules;
  };
}
