-- The ranges of what is set.
use Rattle.std.specs.Prelude.{ℕ, ◌≤◌}

-- 1 to 64 workers
abbrev pub AreWorkers : ℕ → Type 0
AreWorkers n = (1 ≤ n) × (n ≤ 64)

-- 1 to 1000000 documents, of a piece or of a batch
abbrev pub AreDocuments : ℕ → Type 0
AreDocuments n = (1 ≤ n) × (n ≤ 1000000)
