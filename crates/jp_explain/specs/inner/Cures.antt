-- Which row of a table of cures applies at a mark.
use Rattle.std.specs.Prelude.{ℕ, ◌≡◌, true, nat_eq, List}
use Rattle.std.specs.List.{starts_with, ends_with}
use Rattle.jp_explain.specs.declared.cure_table.At.{At}

-- The row is of that place, its first text ends what stands before the mark, and its second one begins what
-- stands behind it.
abbrev pub Applies : At → List ℕ → List ℕ → At → List ℕ → List ℕ → Type 0
Applies place end start at before behind =
    (place ≡ at) × (ends_with nat_eq before end ≡ true) × (starts_with nat_eq behind start ≡ true)
