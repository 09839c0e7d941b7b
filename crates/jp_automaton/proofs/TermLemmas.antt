-- What is left of the set of positions of a pattern.
use Rattle.std.proofs.Common.{◌≡◌, ℕ, zero, suc, ◌+◌, ◌≤◌, ◌<◌, ◌⊎◌, ◌↔◌, Bool, true, false, IsTrue, List, []}
use Rattle.std.proofs.Common.{◌∷◌, ◌++◌, length, sym, ap₂, ◌∙◌, subst, inl, inr, ⊎_elim, arith}
use Rattle.std.specs.List.Sorted.{IsStrictlyIncreasing}
use Rattle.std.specs.Prelude.{slice_index}
use Rattle.jp_pattern.specs.Pattern.{Text, Pattern}
use Rattle.jp_pattern.specs.Language.{Member}
use Rattle.jp_pattern.specs.Profile.{HasCounts, size}
use Rattle.jp_pattern.specs.Unrolled.{unrolled, letters, SomePositionHas, all_positions}
use Rattle.jp_automaton.specs.inner.Simulation.{exits, step, is_elem, Rises}
use Rattle.jp_automaton.proofs.SetLemmas.{left_has, has_left, set_step_sound, set_step_whole, step_rises}
use Rattle.jp_automaton.proofs.SetLemmas.{step_few}
use Rattle.jp_automaton.proofs.StepLemmas.{exits_sound, exits_whole}
use Rattle.jp_pattern.proofs.UnrolledLemmas.{unrolled_whole, unrolled_sound, letters-unrolled}

module _ (p : Pattern) (counts : HasCounts p) (start : Bool) (active : List ℕ) (rises : Rises 0 active) where
  pub takes_step : (c : ℕ) (anew : Bool) (next : List ℕ) → next ≡ step (is_elem active) c (unrolled p) 0
      start → (t : Text) →
      SomePositionHas p (all_positions anew next) t ↔
      (SomePositionHas p (all_positions start active) (c ∷ t) ⊎
      (IsTrue anew × Member p t))
  takes_step c anew next e t =
      let all = step (is_elem active) c (unrolled p) 0 start in
      let up = step_rises (is_elem active) c (unrolled p) 0 start in
      subst (λ n. SomePositionHas p (all_positions anew n) t ↔
      (SomePositionHas p (all_positions start active) (c ∷ t) ⊎
      (IsTrue anew × Member p t))) (sym e) (
        λ h. ⊎_elim
            (λ g. inl (left_has p start active (c ∷ t) counts g))
            (λ g. inr (g.0, unrolled_sound p t counts g.1))
            (set_step_sound (unrolled p) start active c anew t (has_left p anew all t up h)),
        λ h. left_has p anew all t counts (set_step_whole (unrolled p) start active c anew t
            (⊎_elim (λ g. inl (has_left p start active (c ∷ t) rises g))
            (λ g. inr (g.0, unrolled_whole p t g.1)) h)),
      )

  pub accepted : (b : Bool) → b ≡ exits (is_elem active) (unrolled p) 0 start → IsTrue b ↔ SomePositionHas p
      (all_positions start active) []
  accepted b e = (
    λ h. left_has p start active [] counts (exits_sound (is_elem active) (unrolled p) 0 start (sym e ∙ h)),
    λ h. e ∙ exits_whole (is_elem active) (unrolled p) 0 start (has_left p start active [] rises h),
  )

pub next_rises : (p : Pattern) (c : ℕ) (start : Bool) (active next : List ℕ) →
    next ≡ step (is_elem active) c (unrolled p) 0 start → Rises 0 next
next_rises p c start active next e = subst (Rises 0) (sym e) (step_rises (is_elem active) c (unrolled p) 0
    start)

pub next_few : (p : Pattern) (c : ℕ) (start : Bool) (active next : List ℕ) →
    next ≡ step (is_elem active) c (unrolled p) 0 start → length next ≤ size p
next_few p c start active next e =
    subst (λ xs. length xs ≤ size p) (sym e) (subst (λ n. length
    (step (is_elem active) c (unrolled p) 0 start) ≤ n) (letters-unrolled p)
    (step_few (is_elem active) c (unrolled p) start))

-- the k-th of a list and the next
at_tail : (x : ℕ) (xs : List ℕ) (k : ℕ) → slice_index xs k < slice_index xs (k + 1) →
    slice_index (x ∷ xs) (suc k) < slice_index (x ∷ xs) (suc k + 1)
at_tail x xs k h =
    let e : suc k + 1 ≡ suc (k + 1) = omega arith in
    subst (λ n. slice_index (x ∷ xs) (suc k) < slice_index (x ∷ xs) n) (sym e) h

rising_at : (low : ℕ) (xs : List ℕ) → Rises low xs → (k : ℕ) → k + 1 < length xs → slice_index xs k <
    slice_index xs (k + 1)
rising_at low [] h k lt = absurd (omega arith)
rising_at low (x ∷ []) h k lt = absurd (omega arith)
rising_at low (x ∷ y ∷ xs) h zero lt = h.1.0
rising_at low (x ∷ y ∷ xs) h (suc k) lt = at_tail x (y ∷ xs) k (rising_at x (y ∷ xs) h.1 k (omega arith))

pub increasing : (start : Bool) (active : List ℕ) → Rises 0 active →
    IsStrictlyIncreasing (all_positions start active)
increasing true [] h = λ k lt. absurd (omega arith)
increasing true (x ∷ active) h = at_first where
  at_first : IsStrictlyIncreasing (0 ∷ x ∷ active)
  at_first zero lt = h.0
  at_first (suc k) lt = at_tail 0 (x ∷ active) k (rising_at 0 (x ∷ active) h k (omega arith))
increasing false active h = rising_at 0 active h

-- the last that is left of all is the whole
pub at_most_size : (p : Pattern) → size p ≤ 10_000 → 0 + letters (unrolled p) ≤ 10_000
at_most_size p le = omega (arith, letters-unrolled p)

-- the positions that a step gives
pub read_next : (p : Pattern) (c : ℕ) (start : Bool) (active seen cleared filled next : List ℕ) →
    seen ≡ active → cleared ≡ [] → filled ≡ cleared ++ step (is_elem seen) c (unrolled p) 0 start → next ≡
    filled →
    next ≡ step (is_elem active) c (unrolled p) 0 start
read_next p c start active seen cleared filled next e f g h =
    h ∙ g ∙ ap₂ (λ xs ys. xs ++ step (is_elem ys) c (unrolled p) 0 start) f e
