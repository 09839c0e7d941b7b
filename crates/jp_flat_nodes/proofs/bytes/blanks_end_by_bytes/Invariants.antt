use Rattle.std.proofs.Common.{◌≡◌, ◌+◌, ◌-◌, length, drop}
use Rattle.std.specs.List.{prefix_len}
use Rattle.jp_flat_nodes.specs.inner.Reads.{is_blank}
use Rattle.jp_flat_nodes.proofs.bytes.blanks_end_by_bytes.Given as goal

abbrev pub invariant-loop-at : goal.invariant-loop-at
invariant-loop-at l =
    l.from + prefix_len is_blank (drop l.from l.line) ≡ l.at + prefix_len is_blank (drop l.at l.line)

abbrev pub decreases-loop-at : goal.decreases-loop-at
decreases-loop-at l = length l.line - l.at
