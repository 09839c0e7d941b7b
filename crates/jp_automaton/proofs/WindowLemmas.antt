-- Passing sixteen bytes at a time, by the sets of the bytes that a match may begin with.
use Rattle.std.proofs.Common.{◌≡◌, ℕ, zero, suc, ◌+◌, ◌-◌, ◌^◌, ◌<◌, ◌≤◌, List, length, slice_index_or}
use Rattle.std.proofs.Common.{inl, inr, ap, ◌∙◌, subst, arith, Fits, w8, w64}
use Rattle.std.proofs.lemmas.Bool.{cases_lt}
use Rattle.std.proofs.lemmas.List.{get_or_default}
use Rattle.std.proofs.lemmas.Nat.Bits.{bit_at-zero, bit_at-trailing_zeros}
use Rattle.std.specs.Int.{bit_at, trailing_zeros}
use Rattle.jp_automaton.specs.declared.byte_flags.ByteFlags.{ByteFlags}
use Rattle.jp_automaton.specs.declared.prefilter.Prefilter.{Prefilter}
use Rattle.jp_automaton.specs.inner.ByteSets.{HasFlagged, MayPass, bits_of}
use Rattle.jp_automaton.specs.inner.Prefilter.{IsPrefilter}
use Rattle.jp_automaton.proofs.LaneLemmas.{lowest_within}
use Rattle.jp_automaton.proofs.PrefilterLemmas.{behind_rest, pass_first, pass_second, pass_third}
use Rattle.jp_automaton.proofs.ProfileLemmas.{kept_sets}

-- all bytes before each place up to the end may be passed
pub record IsPassed (flags : List ByteFlags) (bytes : List ℕ) (end : ℕ) : Type 0 where
  pub each : (cells : List ℕ) (k : ℕ) → IsPrefilter cells flags → k ≤ end →
      behind_rest cells bytes 0 ≡ behind_rest cells bytes k

pub none_passed : (flags : List ByteFlags) (bytes : List ℕ) → IsPassed flags bytes 0
none_passed flags bytes = record {
  each = λ cells k of le.
      let at : 0 ≡ k = omega arith in
      ap (behind_rest cells bytes) at;
}

abbrev no_flags : ByteFlags
no_flags = record {
  first = 0;
  second = 0;
  third = 0;
  first_bit = omega arith;
  second_bit = omega arith;
  third_bit = omega arith;
}

module _ (prefilter : Prefilter) (bytes : List ℕ) (all : length prefilter.flags.items ≡ 256)
    (fits : (k : ℕ) → Fits w8 (slice_index_or bytes k 0)) where
  abbrev flags : List ByteFlags
  flags = prefilter.flags.items

  byte_at : (k : ℕ) → slice_index_or bytes k 0 < 256
  byte_at k = (fits k).fits

  -- the flags of the byte at k
  abbrev flags_at : ℕ → ByteFlags
  flags_at k = slice_index_or flags (slice_index_or bytes k 0) no_flags

  of_byte : (k : ℕ) → flags_at k ≡ slice_index_or flags (slice_index_or bytes k 0) (flags_at k)
  of_byte k =
      get_or_default flags (slice_index_or bytes k 0) no_flags (flags_at k) (omega (arith, byte_at k, all))

  flagged_at : (k : ℕ) → HasFlagged prefilter.beginnings (slice_index_or bytes k 0) (flags_at k)
  flagged_at k =
      (kept_sets prefilter.beginnings flags prefilter.flagged).each (slice_index_or bytes k 0) no_flags
      (omega (arith, byte_at k, all))

  module _ (cells : List ℕ) (of : IsPrefilter cells flags) where
    pass_one : (k : ℕ) → k + 2 < length bytes → MayPass prefilter.beginnings bytes k →
        behind_rest cells bytes k ≡ behind_rest cells bytes (k + 1)
    pass_one k lt (inl none) =
        pass_first cells bytes flags of all byte_at k (flags_at k) (omega arith) (of_byte k)
        ((flagged_at k).first none)
    pass_one k lt (inr (inl none)) =
        pass_second cells bytes flags of all byte_at k (flags_at (k + 1)) (omega arith) (of_byte (k + 1))
        ((flagged_at (k + 1)).second none)
    pass_one k lt (inr (inr none)) =
        let two : k + 2 ≡ k + 1 + 1 = omega arith in
        pass_third cells bytes flags of all byte_at k (flags_at (k + 1 + 1)) (omega arith)
        (of_byte (k + 1 + 1))
        ((flagged_at (k + 1 + 1)).third
        (subst (λ n. bits_of prefilter.beginnings.third (slice_index_or bytes n 0) ≡ 0) two none))

    pass_many : (from n : ℕ) → from + n + 2 ≤ length bytes →
        ((k : ℕ) → k < n → MayPass prefilter.beginnings bytes (from + k)) →
        behind_rest cells bytes from ≡ behind_rest cells bytes (from + n)
    pass_many from zero le may = ap (behind_rest cells bytes) (omega arith)
    pass_many from (suc n) le may =
        pass_many from n (omega arith) (λ k lt. may k (omega arith))
        ∙ pass_one (from + n) (omega arith) (may n (omega arith))
        ∙ ap (behind_rest cells bytes) (omega arith)

  -- so many from a place that is reached
  passed_more : (from n end : ℕ) → from ≤ end → from + n + 2 ≤ length bytes →
      ((k : ℕ) → k < n → MayPass prefilter.beginnings bytes (from + k)) → IsPassed flags bytes end →
      IsPassed flags bytes (from + n)
  passed_more from n end reached room may passed = record {
    each = λ cells k of le. elim (cases_lt from k) [
      | inl behind ↦
          let at : from + (k - from) ≡ k = omega arith in
          passed.each cells from of reached
          ∙ pass_many cells of from (k - from) (omega arith) (λ i lt. may i (omega arith))
          ∙ ap (behind_rest cells bytes) at
      | inr before ↦ passed.each cells k of (omega arith)
    ];
  }

  -- the sixteen from a place that is reached were looked at
  module _ (found from end : ℕ) (reached : from ≤ end) (room : from + 18 ≤ length bytes)
      (passes : (k : ℕ) → k < 16 → bit_at found k ≡ 0 → MayPass prefilter.beginnings bytes (from + k))
      (passed : IsPassed flags bytes end) where
    pub passed_window : found ≡ 0 → IsPassed flags bytes (from + 16)
    passed_window none =
        passed_more from 16 end reached (omega arith)
        (λ k lt. passes k lt (ap (λ n. bit_at n k) none ∙ bit_at-zero k)) passed

    pub passed_up_to : 0 < found → found < 2 ^ 64 → ((k : ℕ) → 16 ≤ k → bit_at found k ≡ 0) →
        IsPassed flags bytes (from + trailing_zeros w64 found)
    passed_up_to some small within =
        let lowest = lowest_within found some small within in
        let unset = (bit_at-trailing_zeros w64 found some small).2 in
        passed_more from (trailing_zeros w64 found) end reached (omega (arith, lowest))
        (λ k lt. passes k (omega (arith, lowest)) (unset k lt)) passed
