-- A buffer of C that is given bytes.
use Rattle.std.specs.Prelude.{◌≡◌, ℕ, List, ◌++◌, drop, length, take}

-- their front stands in it, as much as there is room for, and behind it the buffer is as it was
abbrev pub IsFilledBy : List ℕ → List ℕ → List ℕ → Type 0
IsFilledBy bytes old new = new ≡ take (length old) bytes ++ drop (length bytes) old
