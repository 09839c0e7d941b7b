-- A working file, which nobody has to believe: which bytes may be passed from the start state. No public
-- contract names it.
use Rattle.std.specs.Prelude.{◌≡◌, ℕ, ◌<◌, ◌⊎◌, List, [], ◌∷◌, length, slice_index_or, Contains}
use Rattle.std.specs.Prelude.{Option, Some}
use Rattle.jp_automaton.specs.declared.byte_flags.ByteFlags.{ByteFlags}
use Rattle.jp_automaton.specs.declared.prefilter.Pair.{Pair}
use Rattle.jp_automaton.specs.declared.byte_sets.ByteSet.{ByteSet}
use Rattle.jp_automaton.specs.declared.dfa.TheConstants.{MATCH_OR_DEAD}
use Rattle.jp_automaton.specs.inner.ByteSets.{bits_of}
use Rattle.jp_automaton.specs.inner.Dfa.{state_after, state_behind}

-- The flags of the bytes. Where a byte has not the first flag, it leads from the start to the start; where it
-- has not the second or the third, the byte that stands first before it changes nothing.
pub record IsPrefilter (cells : List ℕ) (flags : List ByteFlags) : Type 0 where
  pub all : 0 < length flags → length flags ≡ 256
  pub first : (a : ℕ) (m : ByteFlags) → a < length flags → (slice_index_or flags a m).first ≡ 0 →
      state_after cells 0 a ≡ 0
  pub second : (a b : ℕ) (m : ByteFlags) → a < length flags → b < length flags →
      (slice_index_or flags b m).second ≡ 0 →
      state_behind cells 0 (a ∷ b ∷ []) ≡ state_behind cells 0 (b ∷ [])
  pub third : (a b c : ℕ) (m : ByteFlags) → a < length flags → b < length flags → c < length flags →
      (slice_index_or flags c m).third ≡ 0 →
      state_behind cells 0 (a ∷ b ∷ c ∷ []) ≡ state_behind cells 0 (b ∷ c ∷ [])

-- the two states are one, or are among the pairs
abbrev pub HasPair : List Pair → ℕ → ℕ → Type 0
HasPair pairs x y = (x ≡ y) ⊎ Contains pairs (record { all = x; later = y })

-- the pairs behind each byte and the start
pub record AreOnes (cells : List ℕ) (ones : List Pair) : Type 0 where
  pub each : (a : ℕ) → a < 256 → HasPair ones (state_after cells 0 a) 0

-- among the pairs are those behind this one and each byte below the end
pub record HaveBehind (cells : List ℕ) (pairs : List Pair) (pair : Pair) (end : ℕ) : Type 0 where
  pub each : (b : ℕ) → b < end →
      HasPair pairs (state_after cells pair.all b) (state_after cells pair.later b)

-- the pairs behind so many of the others and each byte
pub record AreTwos (cells : List ℕ) (ones twos : List Pair) (count : ℕ) : Type 0 where
  pub each : (k : ℕ) (d : Pair) → k < count → HaveBehind cells twos (slice_index_or ones k d) 256

-- what pairs there were, there are
pub record KeepsPairs (old new : List Pair) : Type 0 where
  pub keeps : (x y : ℕ) → HasPair old x y → HasPair new x y

-- the byte leads from both states of each pair to one
pub record LeadsTogether (cells : List ℕ) (pairs : List Pair) (b : ℕ) : Type 0 where
  pub each : (k : ℕ) (d : Pair) → k < length pairs →
      state_after cells (slice_index_or pairs k d).all b
      ≡ state_after cells (slice_index_or pairs k d).later b

-- the flags of a byte, by the pairs
pub record AreFlagsOf (cells : List ℕ) (ones twos : List Pair) (b : ℕ) (flags : ByteFlags) : Type 0 where
  pub first : flags.first ≡ 0 → state_after cells 0 b ≡ 0
  pub second : flags.second ≡ 0 → LeadsTogether cells ones b
  pub third : flags.third ≡ 0 → LeadsTogether cells twos b

-- the byte leads from none of the states below the count to an end of the search
abbrev pub EndsNone : List ℕ → ℕ → ℕ → Type 0
EndsNone cells count b = (s : ℕ) → s < count → state_after cells s b < MATCH_OR_DEAD

-- a byte below the end that is not in the set leads from no state to an end of the search
pub record IsEndings (cells : List ℕ) (set : ByteSet) (end : ℕ) : Type 0 where
  pub each : (b : ℕ) → b < end → bits_of set b ≡ 0 → EndsNone cells MATCH_OR_DEAD b

-- so it is of the set that is kept, if one is
pub record AreEndings (cells : List ℕ) (endings : Option ByteSet) : Type 0 where
  pub each : (set : ByteSet) → endings ≡ Some set → IsEndings cells set 256

-- none of the bytes is in the set
abbrev pub HasNone : ByteSet → List ℕ → Type 0
HasNone set bytes = (k : ℕ) → k < length bytes → bits_of set (slice_index_or bytes k 0) ≡ 0
