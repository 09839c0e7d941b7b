-- What may stand in a field of a line.
use Rattle.std.proofs.Common.{ℕ, ◌≤◌, List}
use Rattle.std.specs.List.{AllByRecursion}

-- no byte is below the space
abbrev pub IsField : List ℕ → Type 0
IsField bytes = AllByRecursion (λ b. 32 ≤ b) bytes
