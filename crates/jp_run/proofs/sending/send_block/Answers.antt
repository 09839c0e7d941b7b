use Rattle.std.proofs.Common.{rules}
use Rattle.jp_run.proofs.sending.send_block.Goals as goal

pub returns-clause-sent : goal.returns-clause-sent
returns-clause-sent g c = record {
  sent = c.in_ok-send.ensures.sent.sent;
  out = search rules;
  same = search rules;
  lines = search rules;
  asked = search rules;
  bytes = search rules;
  all_bytes_out = search rules;
  none = search rules;
  cutting = search rules;
  progress = search rules;
  come = search rules;
  answered = search rules;
}
