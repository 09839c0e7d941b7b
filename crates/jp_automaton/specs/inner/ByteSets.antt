-- A working file, which nobody has to believe: which bytes are in the sets that vectors are looked up in, and
-- what is passed by them. No public contract names it.
use Rattle.std.specs.Prelude.{◌≡◌, ℕ, ◌+◌, ◌/◌, ◌%◌, ◌<◌, ◌⊎◌, List, bit_and, slice_index_or}
use Rattle.jp_automaton.specs.declared.beginnings.Beginnings.{Beginnings}
use Rattle.jp_automaton.specs.declared.byte_flags.ByteFlags.{ByteFlags}
use Rattle.jp_automaton.specs.declared.byte_sets.ByteSet.{ByteSet}

-- the bits that the entries of a byte's two halves have in common; with none of them it is not in the set
abbrev pub bits_of : ByteSet → ℕ → ℕ
bits_of set b = bit_and (slice_index_or set.low (b % 16) 0) (slice_index_or set.high (b / 16) 0)

-- the byte is in the set of each place that it is flagged for
pub record HasFlagged (sets : Beginnings) (b : ℕ) (flags : ByteFlags) : Type 0 where
  pub first : bits_of sets.first b ≡ 0 → flags.first ≡ 0
  pub second : bits_of sets.second b ≡ 0 → flags.second ≡ 0
  pub third : bits_of sets.third b ≡ 0 → flags.third ≡ 0

-- each byte below the end, with its flags
pub record AreInSets (sets : Beginnings) (flags : List ByteFlags) (end : ℕ) : Type 0 where
  pub each : (b : ℕ) (m : ByteFlags) → b < end → HasFlagged sets b (slice_index_or flags b m)

-- the byte at k, or one of the two that follow it, is not in the set of its place, so no match begins at k
abbrev pub MayPass : Beginnings → List ℕ → ℕ → Type 0
MayPass sets bytes k =
    (bits_of sets.first (slice_index_or bytes k 0) ≡ 0)
    ⊎ ((bits_of sets.second (slice_index_or bytes (k + 1) 0) ≡ 0)
    ⊎ (bits_of sets.third (slice_index_or bytes (k + 2) 0) ≡ 0))
