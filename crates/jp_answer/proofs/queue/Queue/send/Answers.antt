use Rattle.std.proofs.Common.{rules}
use Rattle.jp_answer.proofs.queue.Queue.send.Goals as goal

pub returns-clause-sent : goal.returns-clause-sent
returns-clause-sent g c = record {
  sent = record {
    number = c.args.self.now.next;
    bytes = c.args.bytes;
    block = c.in_ok-block.block;
  };
  out = search rules;
  lines = search rules;
  asked = search rules;
  bytes = search rules;
}
