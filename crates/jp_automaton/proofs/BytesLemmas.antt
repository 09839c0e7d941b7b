-- The bytes of a character, of which the first leads to the next state and the others let it stay.
use Rattle.std.proofs.Common.{◌≡◌, ℕ, ◌+◌, ◌*◌, ◌/◌, ◌<◌, ◌≤◌, ◌⊎◌, Bool, true, false, IsTrue, List, []}
use Rattle.std.proofs.Common.{◌∷◌, ◌++◌, length, inl, inr, refl, sym, ap, ◌∙◌, subst, arith}
use Rattle.std.specs.List.{AllByRecursion}
use Rattle.std.proofs.lemmas.Bool.{cases_lt, ltb-true}
use Rattle.std.proofs.lemmas.List.{get_or_default}
use Rattle.std.proofs.Math.ListN.{get_or-eq_default}
use lib.Utf8.{encode, next}
use Rattle.std.proofs.lemmas.Str.{encode_ascii}
use lib.Dec.{ltb}
use mathlib.Core.Bool.{cond}
use Rattle.jp_automaton.specs.declared.dfa.State.{State}
use Rattle.jp_pattern.specs.CharSets.{is_scalar}
use Rattle.jp_automaton.specs.inner.Dfa.{IsCell, IsDfaOf, cell_at, state_after, state_behind}
use Rattle.jp_pattern.specs.Unrolled.{Unrolled}

-- a byte that goes on with a character
abbrev IsNext : ℕ → Type 0
IsNext b = (128 ≤ b) × (b < 192)

-- the bytes of a character that is not of ASCII
record IsLed (bytes : List ℕ) : Type 0 where
  lead : ℕ
  others : List ℕ
  splits : bytes ≡ lead ∷ others
  low : 192 ≤ lead
  high : lead < 256
  all : AllByRecursion IsNext others

is_next : (n : ℕ) → IsNext (next n)
is_next n = (omega arith, omega arith)

-- one of four by three tests
pick : (P : List ℕ → Type 0) (a b c : Bool) (w x y z : List ℕ) → (a ≡ true → P w) →
    (b ≡ true → P x) → (c ≡ true → P y) → P z → P (cond a w (cond b x (cond c y z)))
pick P true b c w x y z f g h k = f refl
pick P false true c w x y z f g h k = g refl
pick P false false true w x y z f g h k = h refl
pick P false false false w x y z f g h k = k

is_led : (c : ℕ) → 128 ≤ c → c < 0x11_0000 → IsLed (encode c)
unfolding encode
is_led c past small =
    pick IsLed (ltb c 128) (ltb c 2048) (ltb c 65536) _ _ _ _
    (λ e. let lt = ltb-true c 128 e in absurd (omega arith))
    (λ e. let lt = ltb-true c 2048 e in
    record {
      lead = 192 + c / 64;
      others = next c ∷ [];
      splits = refl;
      low = omega arith;
      high = omega arith;
      all = (is_next c, tt);
    })
    (λ e. let lt = ltb-true c 65536 e in
    record {
      lead = 224 + c / 4096;
      others = next (c / 64) ∷ next c ∷ [];
      splits = refl;
      low = omega arith;
      high = omega arith;
      all = (is_next (c / 64), (is_next c, tt));
    })
    (record {
      lead = 240 + c / 262144;
      others = next (c / 4096) ∷ next (c / 64) ∷ next c ∷ [];
      splits = refl;
      low = omega arith;
      high = omega arith;
      all = (is_next (c / 4096), (is_next (c / 64), (is_next c, tt)));
    })

is_ascii : (c : ℕ) → c < 128 → encode c ≡ c ∷ []
is_ascii c lt = encode_ascii c lt

module _ (cells : List ℕ) (count : ℕ) (full : length cells ≡ count * 256) where
  -- behind a number that is no state's, nothing changes
  pub stuck : (n : ℕ) → count ≤ n → (bytes : List ℕ) → state_behind cells n bytes ≡ n
  stuck n past [] = refl
  stuck n past (b ∷ bytes) =
      let out : length cells ≤ n * 256 + b = omega arith in
      ap (λ m. state_behind cells m bytes) (get_or-eq_default cells n out) ∙ stuck n past bytes

  -- a cell of a state is the number behind it
  after_cell : (i b : ℕ) → i < count → b < 256 → state_after cells i b ≡ cell_at cells i b
  after_cell i b lt small = get_or_default cells (i * 256 + b) i 255 (omega arith)

  module _ (p : Unrolled) (unanchored : Bool) (states : List State) (of : IsDfaOf p unanchored states cells)
      (many : count ≡ length states) where
    stays_after : (n b : ℕ) → IsNext b → (n < count) ⊎ (count ≤ n) → state_after cells n b ≡ n
    stays_after n b is (inl lt) =
        after_cell n b lt (omega arith) ∙ of.stays n b (omega arith) is.0 is.1
    stays_after n b is (inr ge) = stuck n ge (b ∷ [])

    stays_behind : (n : ℕ) (others rest : List ℕ) → AllByRecursion IsNext others →
        state_behind cells n (others ++ rest) ≡ state_behind cells n rest
    stays_behind n [] rest all = refl
    stays_behind n (b ∷ others) rest all =
        ap (λ m. state_behind cells m (others ++ rest)) (stays_after n b all.0 (cases_lt n count))
        ∙ stays_behind n others rest all.1

    -- a character leads to one number, which is right for it
    pub reads_char : (i c : ℕ) → i < length states → IsTrue (is_scalar c) → c < 0x11_0000 →
        (rest : List ℕ) →
        (n : ℕ) × (state_behind cells i (encode c ++ rest) ≡ state_behind cells n rest)
        × IsCell p unanchored states i c n
    reads_char i c lt scalar small rest = by (cases_lt c 128) where
      Reads : Type 0
      Reads = (n : ℕ) × (state_behind cells i (encode c ++ rest) ≡ state_behind cells n rest)
          × IsCell p unanchored states i c n

      ascii : c < 128 → Reads
      ascii low = (
        state_after cells i c,
        ap (λ bytes. state_behind cells i (bytes ++ rest)) (is_ascii c low),
        subst (IsCell p unanchored states i c) (sym (after_cell i c (omega arith) (omega arith)))
            (of.cell i c lt (omega arith) c scalar (inl (low, refl))),
      )

      led : 128 ≤ c → IsLed (encode c) → Reads
      led past l = (
        state_after cells i l.lead,
        ap (λ bytes. state_behind cells i (bytes ++ rest)) l.splits
            ∙ stays_behind (state_after cells i l.lead) l.others rest l.all,
        subst (IsCell p unanchored states i c) (sym (after_cell i l.lead (omega arith) l.high))
            (of.cell i l.lead lt l.high c scalar (inr (past, l.low))),
      )

      by : (c < 128) ⊎ (128 ≤ c) → Reads
      by (inl low) = ascii low
      by (inr past) = led past (is_led c past small)
