-- What a run that ended early has written, and passed on.
use Rattle.std.specs.Prelude.{◌≡◌, ℕ, ◌≤◌, ◌⊎◌, Bool, true, List, length, take, Option}
use Rattle.std.specs.Io.KnownBytes.{Appends}

-- some front of the bytes was appended
abbrev pub AppendsFront : Option (List ℕ) → Option (List ℕ) → List ℕ → Type 0
AppendsFront old new bytes = (n : ℕ) × (n ≤ length bytes) × Appends old new (take n bytes)

-- a sink of which this is said holds nothing back: all that it has taken was passed on, or a call has failed
abbrev pub IsPassedOn : Bool → Bool → Type 0
IsPassedOn flushed failed = (flushed ≡ true) ⊎ (failed ≡ true)
