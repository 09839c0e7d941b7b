use Rattle.std.proofs.Common.{rules}
use Rattle.jp_answer.proofs.lists.send_piece.Goals as goal

pub returns-clause-sent : goal.returns-clause-sent
returns-clause-sent g c = record {
  sent = c.in_ok-send.ensures.sent.sent;
  out = search rules;
  lines = search rules;
  asked = search rules;
  bytes = search rules;
}
