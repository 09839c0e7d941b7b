-- A working file, which nobody has to believe: what each line begins with, where it is laid.
use Rattle.std.specs.Prelude.{◌≡◌, ℕ, List, [], ◌∷◌, ◌++◌, decimal}
use Rattle.jp_output.specs.declared.line_front.Laid.{Laid}
use Rattle.jp_output.specs.declared.line_front.Laid.TheVariants.{Unasked, Once, Yes}

abbrev pub IsLaid : Laid → List ℕ → List ℕ → ℕ → Type 0
IsLaid Unasked bytes head number = Unit {0}
IsLaid Once bytes head number = Unit {0}
IsLaid Yes bytes head number = bytes ≡ head ++ (decimal number ++ 9 ∷ [])
