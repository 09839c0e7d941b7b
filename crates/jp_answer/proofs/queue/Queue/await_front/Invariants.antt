use Rattle.std.proofs.Common.{◌≡◌}
use Rattle.jp_answer.proofs.queue.Queue.await_front.Given as goal

abbrev pub invariant-loop-look : goal.invariant-loop-look
invariant-loop-look g l = record {
  asked : l.self.asked ≡ l.fn.self.asked;
  sent : l.self.sent ≡ l.fn.self.sent;
  bytes : l.self.bytes ≡ l.fn.self.bytes;
}
