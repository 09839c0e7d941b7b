-- The settings of a run.
use Rattle.std.specs.Prelude.{ℕ, ◌≤◌}
use Rattle.jp_answer.specs.Ranges.{AreWorkers, AreDocuments}
use Rattle.jp_run.specs.Limits.{max_lines}

-- so many workers, and so many documents of a piece and of a batch
abbrev pub AreSettings : ℕ → ℕ → ℕ → Type 0
AreSettings workers piece batch = AreWorkers workers × AreDocuments piece × AreDocuments batch

-- a number that the first line of an input may have
abbrev pub IsFirst : ℕ → Type 0
IsFirst first = (1 ≤ first) × (first ≤ max_lines)
