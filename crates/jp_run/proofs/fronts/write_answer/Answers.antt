use Rattle.std.proofs.Common.{arith, rules}
use Rattle.jp_answer.proofs.OnFaults.{passed_few}
use Rattle.jp_answer.specs.Answered.{outcome_of}
use Rattle.jp_answer.specs.Queued.{sent_task}
use Rattle.jp_run.specs.Answered.{numbering_of}
use Rattle.jp_run.specs.inner.Going.{manner_asked}
use Rattle.jp_run.proofs.Handing.{told, handing_done, ended_handing}
use Rattle.jp_run.proofs.Wrote.{wrote_on, wrote_whole}
use Rattle.jp_answer.specs.Asking.{asked_query}
use Rattle.jp_run.proofs.fronts.write_answer.Goals as goal

pub returns-in_err-hand_out : goal.returns-in_err-hand_out
returns-in_err-hand_out g c = record {
  block = record {
    ready = search rules;
    handed = search rules;
    written = search rules;
    left = search rules;
    fault = told _ _ _ c.from_residual.ensures.1 (ended_handing _ _ _ (outcome_of c.args.answer.now)
        c.requires.answer.answer _ _ _ _ c.in_err-hand_out.ensures.fault);
  };
}

pub overflow_add-stream-2 : goal.overflow_add-stream-2
overflow_add-stream-2 g c = omega (
  arith,
  c.requires.answer.passed,
  passed_few (sent_task c.args.front.now).asked.policy (sent_task c.args.front.now).lines,
  c.requires.writing.few_lines,
  c.requires.writing.few_faulty,
)

pub returns : goal.returns
returns g c =
    let task = sent_task c.args.front.now in
    let going = manner_asked g.F.Form (numbering_of c.args.job.now.settings) task.asked in
    let q = asked_query task.asked in
    record {
      block = record {
        ready = search rules;
        handed = handing_done _ _ _ (outcome_of c.args.answer.now) c.requires.answer.answer _ _
            c.in_ok-hand_out.ensures.whole c.in_ok-hand_out.ensures.ok;
        written = record {
          buffer = search rules;
          come = search rules;
          lines = search rules;
          faulty = search rules;
          wrote = wrote_on going q task.lines _ _ _ c.saturating_add-stream.ensures
              (wrote_whole going q task.lines (outcome_of c.args.answer.now) _ c.requires.answer.answer
              c.byte_count.ensures);
        };
        left = search rules;
        fault = search rules;
      };
    }
