-- A text without a byte by which a search ends has no match.
use Rattle.std.proofs.Common.{◌≡◌, ℕ, suc, ◌+◌, ◌-◌, ◌<◌, ◌≤◌, List, [], ◌∷◌, slice_index_or}
use Rattle.std.proofs.Common.{Option, None, Bool, true, false, not, nat_eq, subst, arith, Fits, w8}
use Rattle.std.proofs.Common.{eqb-true, inl, inr, refl}
use Rattle.std.proofs.lemmas.Bool.{cases_lt}
use Rattle.jp_automaton.specs.declared.byte_sets.ByteSet.{ByteSet}
use Rattle.jp_automaton.specs.declared.dfa.TheConstants.{MATCH_OR_DEAD}
use Rattle.jp_automaton.specs.inner.ByteSets.{bits_of}
use Rattle.jp_automaton.specs.inner.Dfa.{state_after, state_behind}
use Rattle.jp_automaton.specs.inner.Prefilter.{AreEndings, IsEndings, HasNone}

pub no_endings : (cells : List ℕ) (endings : Option ByteSet) → endings ≡ None → AreEndings cells endings
no_endings cells endings none = record { each = λ set is. absurd (cc (none, is)) }

module _ (cells : List ℕ) (set : ByteSet) (of : IsEndings cells set 256) where
  stays_below : (bytes : List ℕ) (s : ℕ) → s < MATCH_OR_DEAD → ((k : ℕ) → Fits w8 (slice_index_or bytes k 0))
      → HasNone set bytes → state_behind cells s bytes < MATCH_OR_DEAD
  stays_below [] s lt fits none = lt
  stays_below (b ∷ bytes) s lt fits none =
      stays_below bytes (state_after cells s b)
      (of.each b (fits 0).fits (none 0 (omega arith)) s lt)
      (λ k. fits (suc k))
      (λ k in_rest. none (suc k) (omega (arith, in_rest)))

  pub none_found : (bytes : List ℕ) → ((k : ℕ) → Fits w8 (slice_index_or bytes k 0)) → HasNone set bytes
      → state_behind cells 0 bytes < MATCH_OR_DEAD
  none_found bytes fits none = stays_below bytes 0 (omega arith) fits none

pub is_zero : (n : ℕ) → not (nat_eq n 0) ≡ false → n ≡ 0
is_zero n = go (nat_eq n 0) refl
  where
    go : (t : Bool) → nat_eq n 0 ≡ t → not t ≡ false → n ≡ 0
    go true is e = eqb-true n 0 is
    go false is e = absurd cc

-- none up to a place, and none of the sixteen from there on
pub none_further : (set : ByteSet) (bytes : List ℕ) (from end : ℕ) → end ≤ from + 16
    → ((k : ℕ) → k < from → bits_of set (slice_index_or bytes k 0) ≡ 0)
    → ((k : ℕ) → k < 16 → bits_of set (slice_index_or bytes (from + k) 0) ≡ 0)
    → (k : ℕ) → k < end → bits_of set (slice_index_or bytes k 0) ≡ 0
none_further set bytes from end le before here k lt =
    elim (cases_lt k from) [
      | inl less ↦ before k less
      | inr more ↦
          let place : from + (k - from) ≡ k = omega arith in
          subst (λ i. bits_of set (slice_index_or bytes i 0) ≡ 0) place (here (k - from) (omega arith))
    ]
