use Rattle.std.proofs.Common.{◌≡◌, ◌≤◌, ◌-◌, None, drop, length, map}
use Rattle.jp_buffer.specs.Buffered.{line_at}
use Rattle.jp_answer.specs.inner.Gathering.{Gathers, gathered_of}
use Rattle.jp_answer.proofs.lists.gather.Given as goal

abbrev pub invariant-loop-sent : goal.invariant-loop-sent
invariant-loop-sent g l = record {
  gathers : Gathers g.F.Form.says l.out.asked (map line_at l.lines) (map line_at (drop l.sent l.lines))
      l.out.sent.items l.done;
  asked : l.out.asked ≡ l.fn.out.asked;
  unstopped : (gathered_of l.done).stopped ≡ None;
  within : l.sent ≤ length l.lines;
}

abbrev pub decreases-loop-sent : goal.decreases-loop-sent
decreases-loop-sent g l = length l.lines - l.sent
