use Rattle.std.proofs.Common.{◌≡◌, ◌+◌, ◌-◌, ◌≤◌, length, drop}
use Rattle.jp_documents.specs.inner.Finding.{matters_in_brackets, run_len}
use Rattle.jp_documents.proofs.runs.brackets_run_by_bytes.Given as goal

abbrev pub invariant-loop-at : goal.invariant-loop-at
invariant-loop-at l =
    (l.from + run_len matters_in_brackets (drop l.from l.bytes)
    ≡ l.at + run_len matters_in_brackets (drop l.at l.bytes))
    × (l.at ≤ length l.bytes)

abbrev pub decreases-loop-at : goal.decreases-loop-at
decreases-loop-at l = length l.bytes - l.at
