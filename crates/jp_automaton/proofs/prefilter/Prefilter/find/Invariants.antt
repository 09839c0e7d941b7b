use Rattle.std.proofs.Common.{◌+◌, ◌≤◌, ◌-◌}
use Rattle.jp_automaton.proofs.WindowLemmas.{IsPassed}
use Rattle.jp_automaton.proofs.prefilter.Prefilter.find.Given as goal

abbrev pub invariant-loop-from : goal.invariant-loop-from
invariant-loop-from l = record {
  within : l.from ≤ l.last + 16;
  passed : IsPassed l.self.flags.items l.bytes l.from;
}

abbrev pub decreases-loop-from : goal.decreases-loop-from
decreases-loop-from l = l.last - l.from
