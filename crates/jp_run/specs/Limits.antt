-- The limits of a run.
use Rattle.std.specs.Prelude.{ℕ, ◌^◌}

-- the most calls of `read` without an end
abbrev pub max_reads : ℕ
max_reads = 2 ^ 40

-- the most lines, blank ones too
abbrev pub max_lines : ℕ
max_lines = 4294967295

-- the most bytes that may have come behind those that are answered, as a read begins, and one
abbrev pub window : ℕ
window = 4194304
