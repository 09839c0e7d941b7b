use Rattle.std.proofs.Common.{◌≡◌, None, length}
use Rattle.jp_answer.specs.inner.Gathering.{GathersOn, gathered_of}
use Rattle.jp_answer.proofs.lists.take_all.Given as goal

abbrev pub invariant-loop-out : goal.invariant-loop-out
invariant-loop-out g l = record {
  gathers : GathersOn g.F.Form.says l.fn.out l.out l.fn.done l.done;
  asked : l.out.asked ≡ l.fn.out.asked;
  unstopped : (gathered_of l.done).stopped ≡ None;
}

abbrev pub decreases-loop-out : goal.decreases-loop-out
decreases-loop-out g l = length l.out.sent.items
