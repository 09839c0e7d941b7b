-- Which bytes may be passed from the start state.
use Rattle.std.proofs.Common.{◌≡◌, ◌≢◌, ℕ, zero, suc, ◌+◌, ◌-◌, ◌<◌, ◌≤◌, ◌⊎◌, List, [], ◌∷◌, length}
use Rattle.std.proofs.Common.{drop, slice_index_or, inl, inr, refl, sym, ap, ◌∙◌, subst, arith}
use Rattle.std.proofs.Common.{add-one, drop-cons}
use Rattle.std.specs.Int.Bits.{bit_and}
use Rattle.std.proofs.lemmas.Nat.{and_le_l}
use Rattle.jp_automaton.specs.declared.byte_flags.ByteFlags.{ByteFlags}
use Rattle.jp_automaton.specs.declared.prefilter.Pair.{Pair}
use Rattle.jp_automaton.specs.inner.Prefilter.{AreFlagsOf, AreOnes, IsPrefilter, AreTwos, HasPair}
use Rattle.jp_automaton.specs.inner.Prefilter.{LeadsTogether}
use Rattle.jp_automaton.specs.inner.Dfa.{state_after, state_behind}

-- ---- what the flags of all bytes are made of

module _ (cells : List ℕ) (ones twos : List Pair) (flags : List ByteFlags) (first : AreOnes cells ones)
    (second : AreTwos cells ones twos (length ones)) (all : length flags ≡ 256)
    (each : (b : ℕ) (m : ByteFlags) → b < length flags →
    AreFlagsOf cells ones twos b (slice_index_or flags b m)) where
  -- where each pair leads to one state, these two do
  together : (pairs : List Pair) (x y b : ℕ) → HasPair pairs x y → LeadsTogether cells pairs b →
      state_after cells x b ≡ state_after cells y b
  together pairs x y b (inl same) leads = ap (λ s. state_after cells s b) same
  together pairs x y b (inr (k, lt, at)) leads =
      let pair : Pair = record { all = x; later = y } in
      sym (ap (λ d. state_after cells d.all b) at) ∙ leads.each k pair lt
      ∙ ap (λ d. state_after cells d.later b) at

  -- the pair behind two bytes
  has_two : (a b : ℕ) → b < 256 → HasPair ones (state_after cells 0 a) 0 →
      HasPair twos (state_after cells (state_after cells 0 a) b) (state_after cells 0 b)
  has_two a b lt (inl same) = inl (ap (λ s. state_after cells s b) same)
  has_two a b lt (inr (k, in_ones, at)) =
      let pair : Pair = record { all = state_after cells 0 a; later = 0 } in
      subst (λ d. HasPair twos (state_after cells d.all b) (state_after cells d.later b)) at
      ((second.each k pair in_ones).each b lt)

  pub is_prefilter : IsPrefilter cells flags
  is_prefilter = record {
    all = λ some. all;
    first = λ a m lt e. (each a m lt).first e;
    second = λ a b m lt in_marks e.
        together ones (state_after cells 0 a) 0 b (first.each a (omega arith)) ((each b m in_marks).second e);
    third = λ a b c m lt in_marks last e.
        together twos (state_after cells (state_after cells 0 a) b) (state_after cells 0 b) c
        (has_two a b (omega arith) (first.each a (omega arith))) ((each c m last).third e);
  }

-- no flags tell nothing
pub no_prefilter : (cells : List ℕ) (flags : List ByteFlags) → flags ≡ [] → IsPrefilter cells flags
no_prefilter cells flags none =
    let empty : length flags ≡ 0 = ap length none in
    record {
      all = λ some. absurd (omega arith);
      first = λ a m lt e. absurd (omega arith);
      second = λ a b m lt in_marks e. absurd (omega arith);
      third = λ a b c m lt in_marks last e. absurd (omega arith);
    }

-- ---- passing bytes

-- the number behind the bytes after so many
abbrev pub behind_rest : List ℕ → List ℕ → ℕ → ℕ
behind_rest cells bytes k = state_behind cells 0 (drop k bytes)

-- what was found in the bytes before i: two tells of the byte two before, and one of that one byte
-- before, whether something may begin there
pub record IsPassing (cells bytes : List ℕ) (i one two : ℕ) : Type 0 where
  pub from_two : two ≢ 0 → behind_rest cells bytes 0 ≡ behind_rest cells bytes (i - 2)
  pub past_two : two ≡ 0 → behind_rest cells bytes 0 ≡ behind_rest cells bytes (i - 1)
  pub past_one : one ≡ 0 → behind_rest cells bytes (i - 1) ≡ behind_rest cells bytes i

-- what holds of the flags that are carried, at the first bytes
pub record AreCarried (i one two : ℕ) : Type 0 where
  pub two_read : two ≢ 0 → 2 ≤ i
  pub one_read : one ≢ 0 → 1 ≤ i
  pub two_bit : two ≤ 1
  pub one_bit : one ≤ 1

pub carried_more : (i one two : ℕ) (m : ByteFlags) → AreCarried i one two →
    AreCarried (i + 1) m.first (bit_and one m.second)
carried_more i one two m of = record {
  two_read = λ e. omega (arith, of.one_read (λ z. e (omega (arith, and_le_l one m.second))));
  one_read = λ e. omega arith;
  two_bit = omega (arith, and_le_l one m.second, of.one_bit);
  one_bit = m.first_bit;
}

is_zero_or : (n : ℕ) → (n ≡ 0) ⊎ (n ≢ 0)
is_zero_or zero = inl refl
is_zero_or (suc n) = inr (λ e. omega arith)

-- of two bits, of which not both are set, the second is not where the first is
other_bit : (a b : ℕ) → a ≤ 1 → b ≤ 1 → bit_and a b ≡ 0 → a ≢ 0 → b ≡ 0
other_bit zero b le few e some = absurd (some refl)
other_bit (suc zero) zero le few e some = refl
other_bit (suc zero) (suc zero) le few e some = e
other_bit (suc zero) (suc (suc b)) le few e some = absurd (omega arith)
other_bit (suc (suc a)) b le few e some = absurd (omega arith)

module _ (cells bytes : List ℕ) (flags : List ByteFlags) (of : IsPrefilter cells flags)
    (all : length flags ≡ 256)
    (small : (k : ℕ) → slice_index_or bytes k 0 < 256) where
  rest_at : (k : ℕ) → k < length bytes → drop k bytes ≡ slice_index_or bytes k 0 ∷ drop (k + 1) bytes
  rest_at k lt = rw (add-one, drop-cons bytes k 0)

  pub pass_first : (k : ℕ) (m : ByteFlags) → k < length bytes → m ≡
      slice_index_or flags (slice_index_or bytes k 0) m
      → m.first ≡ 0 → behind_rest cells bytes k ≡ behind_rest cells bytes (k + 1)
  pass_first k m lt at e =
      ap (state_behind cells 0) (rest_at k lt)
      ∙ ap (λ s. state_behind cells s (drop (k + 1) bytes))
      (of.first (slice_index_or bytes k 0) m (omega (arith, small k)) (ap (λ x. x.first) (sym at) ∙ e))

  pub pass_second : (k : ℕ) (m : ByteFlags) → k + 1 < length bytes →
      m ≡ slice_index_or flags (slice_index_or bytes (k + 1) 0) m → m.second ≡ 0 →
      behind_rest cells bytes k ≡ behind_rest cells bytes (k + 1)
  pass_second k m lt at e =
      let x = slice_index_or bytes k 0 in
      let y = slice_index_or bytes (k + 1) 0 in
      let rest = drop (k + 1 + 1) bytes in
      ap (state_behind cells 0) (rest_at k (omega arith) ∙ ap (λ r. x ∷ r) (rest_at (k + 1) lt))
      ∙ ap (λ s. state_behind cells s rest)
      (of.second x y m (omega (arith, small k)) (omega (arith, small (k + 1)))
      (ap (λ d. d.second) (sym at) ∙ e))
      ∙ sym (ap (state_behind cells 0) (rest_at (k + 1) lt))

  pub pass_third : (k : ℕ) (m : ByteFlags) → k + 1 + 1 < length bytes →
      m ≡ slice_index_or flags (slice_index_or bytes (k + 1 + 1) 0) m → m.third ≡ 0 →
      behind_rest cells bytes k ≡ behind_rest cells bytes (k + 1)
  pass_third k m lt at e =
      let x = slice_index_or bytes k 0 in
      let y = slice_index_or bytes (k + 1) 0 in
      let z = slice_index_or bytes (k + 1 + 1) 0 in
      let rest = drop (k + 1 + 1 + 1) bytes in
      let back = rest_at (k + 1) (omega arith) ∙ ap (λ r. y ∷ r) (rest_at (k + 1 + 1) lt) in
      ap (state_behind cells 0) (rest_at k (omega arith) ∙ ap (λ r. x ∷ r) back)
      ∙ ap (λ s. state_behind cells s rest)
      (of.third x y z m (omega (arith, small k)) (omega (arith, small (k + 1)))
      (omega (arith, small (k + 1 + 1))) (ap (λ d. d.third) (sym at) ∙ e))
      ∙ sym (ap (state_behind cells 0) back)

  module _ (i : ℕ) (m : ByteFlags) (lt : i < length bytes)
      (at : m ≡ slice_index_or flags (slice_index_or bytes i 0) m) where
    past_two_more : (one two : ℕ) → AreCarried i one two → IsPassing cells bytes i one two →
        bit_and two m.third ≡ 0 → (two ≡ 0) ⊎ (two ≢ 0) →
        behind_rest cells bytes 0 ≡ behind_rest cells bytes (i - 1)
    past_two_more one two carried kept e (inl none) = kept.past_two none
    past_two_more one two carried kept e (inr some) =
        let read = carried.two_read some in
        let here : i ≡ i - 2 + 1 + 1 = omega arith in
        let next : i - 2 + 1 ≡ i - 1 = omega arith in
        kept.from_two some
        ∙ pass_third (i - 2) m (omega arith)
        (subst (λ n. m ≡ slice_index_or flags (slice_index_or bytes n 0) m) here at)
        (other_bit two m.third carried.two_bit m.third_bit e some)
        ∙ ap (behind_rest cells bytes) next

    past_one_more : (one two : ℕ) → AreCarried i one two → IsPassing cells bytes i one two →
        bit_and one m.second ≡ 0 → (one ≡ 0) ⊎ (one ≢ 0) →
        behind_rest cells bytes (i - 1) ≡ behind_rest cells bytes i
    past_one_more one two carried kept e (inl none) = kept.past_one none
    past_one_more one two carried kept e (inr some) =
        let read = carried.one_read some in
        let here : i ≡ i - 1 + 1 = omega arith in
        pass_second (i - 1) m (omega arith)
        (subst (λ n. m ≡ slice_index_or flags (slice_index_or bytes n 0) m) here at)
        (other_bit one m.second carried.one_bit m.second_bit e some)
        ∙ ap (behind_rest cells bytes) (sym here)

    pub passing_more : (one two : ℕ) → AreCarried i one two → IsPassing cells bytes i one two →
        bit_and two m.third ≡ 0 → IsPassing cells bytes (i + 1) m.first (bit_and one m.second)
    passing_more one two carried kept e =
        let back : i + 1 - 1 ≡ i = omega arith in
        let two_back : i - 1 ≡ i + 1 - 2 = omega arith in
        let past = past_two_more one two carried kept e (is_zero_or two) in
        record {
          from_two = λ f. past ∙ ap (behind_rest cells bytes) two_back;
          past_two = λ f. past ∙ past_one_more one two carried kept f (is_zero_or one)
              ∙ ap (behind_rest cells bytes) (sym back);
          past_one = λ f. ap (behind_rest cells bytes) back ∙ pass_first i m lt at f;
        }
