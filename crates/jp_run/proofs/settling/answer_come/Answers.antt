use Rattle.std.proofs.Common.{arith, rules}
use Rattle.std.proofs.lemmas.Grind.{common_steps}
use Rattle.jp_run.specs.Answered.{manner_in}
use Rattle.jp_run.proofs.Wrote.{wrote_on}
use Rattle.jp_run.specs.inner.Jobs.{job_query}
use Rattle.jp_run.proofs.settling.answer_come.Goals as goal

pub returns-clause-answered : goal.returns-clause-answered
returns-clause-answered g c = record {
  handed = c.in_ok-passed.ensures.handed_out.handed;
  none = grind (arith, common_steps);
  come = search rules;
  cutting = search rules;
  progress = search rules;
  lines = search rules;
  faulty = search rules;
  wrote = wrote_on (manner_in g.F.Form.says c.args.job.now.settings)
      (job_query c.args.job.now) c.args.stream.now.buffer.lines _ _ _
      c.saturating_add-stream.ensures c.in_ok-passed.ensures.handed_out.wrote;
}
