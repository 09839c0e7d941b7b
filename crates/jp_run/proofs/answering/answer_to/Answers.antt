use Rattle.std.proofs.Common.{map}
use Rattle.jp_buffer.specs.Buffered.{line_at}
use Rattle.jp_run.proofs.Handing.{in_manner}
use Rattle.jp_run.proofs.answering.answer_to.Goals as goal

pub returns : goal.returns
returns g c = in_manner g.F.Form.says _ _ _ _ _ _ (map line_at c.args.lines.now) c.in_ok-answer.answer
    c.asked-asked.ensures.layout c.asked-asked.ensures.policy c.asked-asked.ensures.query
    c.in_ok-answer.ensures
