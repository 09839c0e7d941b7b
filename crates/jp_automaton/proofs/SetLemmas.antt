-- One step on a set of positions: what is left of it, that it rises, and how many positions it has. The flag
-- says whether position 0 is in
-- the set, and the list has the others.
use Rattle.std.proofs.Common.{◌≡◌, ℕ, zero, suc, ◌+◌, ◌≤◌, ◌⊎◌, Bool, true, false, ◌&&◌, if◌then◌else◌}
use Rattle.std.proofs.Common.{IsTrue, List, [], ◌∷◌, ◌++◌, length, refl, sym, subst, inl, inr, ⊎_elim, arith}
use Rattle.std.proofs.Common.{true≢false}
use Rattle.std.specs.Prelude.{Contains}
use Rattle.std.proofs.lemmas.Bool.{or_cases, or_left, or_right, eqb-true, eq-eqb}
use Rattle.jp_pattern.specs.Pattern.{Text, Pattern}
use Rattle.jp_pattern.specs.Profile.{HasCounts}
use Rattle.jp_pattern.specs.CharSets.{in_set}
use Rattle.jp_pattern.specs.Unrolled.{Unrolled, nothing, letter, seq, either, maybe, plus, unrolled, Has}
use Rattle.jp_pattern.specs.Unrolled.{letters, After, PositionHas, SomePositionHas, all_positions}
use Rattle.jp_automaton.specs.inner.Simulation.{step, Elem, is_elem, Rises}
use Rattle.jp_automaton.proofs.StepLemmas.{After-within, Held, step_within, step_sound, step_whole}
use Rattle.jp_pattern.proofs.UnrolledLemmas.{unrolled_whole, unrolled_sound}

is_elem-Elem : (xs : List ℕ) (x : ℕ) → is_elem xs x ≡ true → Elem x xs
is_elem-Elem [] x e = absurd (true≢false (sym e))
is_elem-Elem (y ∷ ys) x e = ⊎_elim (λ h. inl (eqb-true x y h)) (λ h. inr (is_elem-Elem ys x h))
    (or_cases _ _ e)

Elem-is_elem : (xs : List ℕ) (x : ℕ) → Elem x xs → is_elem xs x ≡ true
Elem-is_elem [] x h = absurd h
Elem-is_elem (y ∷ ys) x (inl e) = or_left _ _ (eq-eqb x y e)
Elem-is_elem (y ∷ ys) x (inr h) = or_right _ _ (Elem-is_elem ys x h)

Elem-Contains : (xs : List ℕ) (x : ℕ) → Elem x xs → Contains xs x
Elem-Contains [] x h = absurd h
Elem-Contains (y ∷ ys) x (inl e) = (0, omega arith, sym e)
Elem-Contains (y ∷ ys) x (inr h) = let (k, lt, e) = Elem-Contains ys x h in (suc k, omega arith, e)

Contains-Elem : (xs : List ℕ) (x : ℕ) → Contains xs x → Elem x xs
Contains-Elem [] x (k, lt, e) = absurd (omega arith)
Contains-Elem (y ∷ ys) x (zero, lt, e) = inl (sym e)
Contains-Elem (y ∷ ys) x (suc k, lt, e) = inr (Contains-Elem ys x (k, omega arith, e))

-- ---- what is left of a set

module _ (p : Pattern) (start : Bool) (xs : List ℕ) (t : Text) where
  abbrev pub Left : Type 0
  Left = Held (is_elem xs) (unrolled p) 0 start t

  position : (k : ℕ) → After (unrolled p) k t → PositionHas p k t
  position zero m = absurd (let r = After-within (unrolled p) 0 t m in omega arith)
  position (suc k) m = m

  first : (b : Bool) → IsTrue b → Elem 0 (all_positions b xs)
  first true h = inl refl
  first false h = absurd (true≢false (sym h))

  other : (b : Bool) (k : ℕ) → Elem k xs → Elem k (all_positions b xs)
  other true k h = inr h
  other false k h = h

  pub left_has : HasCounts p → Left → SomePositionHas p (all_positions start xs) t
  left_has o (inl (f, m)) = (0, Elem-Contains _ 0 (first start f), unrolled_sound p t o m)
  left_has o (inr (k, l, m)) =
      let same : 0 + k ≡ k = omega arith in (
        k,
        Elem-Contains _ k (other start k (is_elem-Elem xs k (subst (λ n. IsTrue (is_elem xs n)) same l))),
        position k m,
      )

  by_flag : (b : Bool) (k : ℕ) → Elem k (all_positions b xs) → (IsTrue b × (k ≡ 0)) ⊎ Elem k xs
  by_flag true k (inl e) = inl (refl, e)
  by_flag true k (inr h) = inr h
  by_flag false k h = inr h

  at_zero : Rises 0 xs → Elem 0 xs → ⊥
  at_zero h l = none 0 xs h l where
    none : (low : ℕ) (ys : List ℕ) → Rises low ys → Elem 0 ys → ⊥
    none low [] h l = l
    none low (y ∷ ys) h (inl e) = omega arith
    none low (y ∷ ys) h (inr l) = none y ys h.1 l

  by_position : (k : ℕ) → Rises 0 xs → (IsTrue start × (k ≡ 0)) ⊎ Elem k xs → PositionHas p k t → Left
  by_position zero rises (inl f) m = inl (f.0, unrolled_whole p t m)
  by_position zero rises (inr l) m = absurd (at_zero rises l)
  by_position (suc k) rises (inl f) m = absurd (omega (arith, f.1))
  by_position (suc k) rises (inr l) m =
      let same : suc k ≡ 0 + suc k = omega arith in
      inr (suc k, subst (λ n. IsTrue (is_elem xs n)) same (Elem-is_elem xs (suc k) l), m)

  pub has_left : Rises 0 xs → SomePositionHas p (all_positions start xs) t → Left
  has_left rises (k, l, m) = by_position k rises (by_flag start k (Contains-Elem _ k l)) m

module _ (p : Unrolled) (start : Bool) (xs : List ℕ) (c : ℕ) (anew : Bool) (t : Text) where
  pub set_step_sound : Held (is_elem (step (is_elem xs) c p 0 start)) p 0 anew t →
      Held (is_elem xs) p 0 start (c ∷ t) ⊎ (IsTrue anew × Has p t)
  set_step_sound (inl h) = inr h
  set_step_sound (inr (k, l, m)) = inl (step_sound (is_elem xs) c p 0 start k t (is_elem-Elem _ (0 + k) l) m)

  pub set_step_whole : Held (is_elem xs) p 0 start (c ∷ t) ⊎ (IsTrue anew × Has p t) →
      Held (is_elem (step (is_elem xs) c p 0 start)) p 0 anew t
  set_step_whole (inl h) =
      let r = step_whole (is_elem xs) c p 0 start t h in
      inr (r.0, Elem-is_elem _ (0 + r.0) r.1, r.2)
  set_step_whole (inr h) = inl h

-- ---- no position twice

Rises-append : (low mid : ℕ) (xs ys : List ℕ) → low ≤ mid → ((x : ℕ) → Elem x xs → x ≤ mid) → Rises low xs
    → Rises mid ys → Rises low (xs ++ ys)
Rises-append low mid [] [] le f h k = tt
Rises-append low mid [] (y ∷ ys) le f h k = (omega arith, k.1)
Rises-append low mid (x ∷ xs) ys le f h k =
    (h.0, Rises-append x mid xs ys (f x (inl refl)) (λ z l. f z (inr l)) h.1 k)

module _ (active : ℕ → Bool) (c : ℕ) where
  one_rises : (off : ℕ) (b : Bool) → Rises off (if b then (off + 1) ∷ [] else [])
  one_rises off true = (omega arith, tt)
  one_rises off false = tt

  pub step_rises : (p : Unrolled) (off : ℕ) (entered : Bool) → Rises off (step active c p off entered)
  step_rises nothing off entered = tt
  step_rises (letter set) off entered = one_rises off (entered && in_set set c)
  step_rises (seq a b) off entered =
      Rises-append off (off + letters a) _ _ (omega arith)
      (λ x l. (step_within active c a off entered x l).1)
      (step_rises a off entered) (step_rises b (off + letters a) _)
  step_rises (either a b) off entered =
      Rises-append off (off + letters a) _ _ (omega arith)
      (λ x l. (step_within active c a off entered x l).1)
      (step_rises a off entered) (step_rises b (off + letters a) _)
  step_rises (maybe a) off entered = step_rises a off entered
  step_rises (plus a) off entered = step_rises a off _

rises_short : (xs : List ℕ) (low high : ℕ) → Rises low xs → ((x : ℕ) → Elem x xs → x ≤ high) → low ≤ high
    → low + length xs ≤ high
rises_short [] low high h f le = omega arith
rises_short (x ∷ xs) low high h f le =
    omega (arith, rises_short xs x high h.1 (λ z l. f z (inr l)) (f x (inl refl)), h.0)

-- there are no more positions than atoms of one character
pub step_few : (active : ℕ → Bool) (c : ℕ) (p : Unrolled) (start : Bool)
    → length (step active c p 0 start) ≤ letters p
step_few active c p start =
    omega (
      arith,
      rises_short (step active c p 0 start) 0 (letters p) (step_rises active c p 0 start)
          (λ x l. let r = step_within active c p 0 start x l in omega arith) (omega arith),
    )
