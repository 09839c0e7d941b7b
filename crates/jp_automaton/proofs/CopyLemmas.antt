-- A counted repetition, copy by copy.
use Rattle.std.proofs.Common.{◌≡◌, ℕ, zero, suc, ◌+◌, ◌-◌, ◌*◌, ◌≤◌, ◌<◌, Bool, true, false, ◌++◌, ◌&&◌, ◌||◌}
use Rattle.std.proofs.Common.{nat_le, refl, ap, ap₂, ◌∙◌, subst, arith, add-mul}
use Rattle.std.proofs.lemmas.Bool.{le-leb, lt-leb}
use Rattle.jp_pattern.specs.Unrolled.{Unrolled, counted, letters}
use Rattle.jp_automaton.specs.inner.Simulation.{exits, step, Inactive}
use Rattle.jp_automaton.proofs.SkipLemmas.{inactive_exits, inactive_step}
use Rattle.jp_pattern.proofs.UnrolledLemmas.{letters-counted}

module _ (a : Unrolled) (least i : ℕ) where
  size_at : (l m k : ℕ) → l ≡ least - i → k ≡ least - (i + 1) → letters (counted l (suc m) a)
      ≡ letters a + letters (counted k m a)
  size_at zero m k e f = let g : k ≡ 0 = omega arith in rw g refl
  size_at (suc l) m k e f = let g : k ≡ l = omega arith in rw g refl

  pub counted-letters : (most : ℕ) → i < most →
      letters (counted (least - i) (most - i) a)
      ≡ letters a + letters (counted (least - (i + 1)) (most - (i + 1)) a)
  counted-letters most lt =
      let e : most - i ≡ suc (most - (i + 1)) = omega arith in
      rw e (size_at (least - i) (most - (i + 1)) (least - (i + 1)) refl refl)

  module _ (active : ℕ → Bool) (off : ℕ) (entered : Bool) where
    exits_at : (l m k : ℕ) → l ≡ least - i → k ≡ least - (i + 1)
        → exits active (counted l (suc m) a) off entered
        ≡ ((nat_le least i && entered) || exits active (counted k m a) (off + letters a)
        (exits active a off entered))
    exits_at zero m k e f =
        let g : k ≡ 0 = omega arith in
        let h : nat_le least i ≡ true = le-leb least i (omega arith) in
        rw (g, h) refl
    exits_at (suc l) m k e f =
        let g : k ≡ l = omega arith in
        let h : nat_le least i ≡ false = lt-leb least i (omega arith) in
        rw (g, h) refl

    pub counted-exits : (most : ℕ) → i < most → exits active (counted (least - i) (most - i) a) off entered
        ≡ ((nat_le least i && entered) || exits active (counted (least - (i + 1)) (most - (i + 1)) a)
        (off + letters a) (exits active a off entered))
    counted-exits most lt =
        let e : most - i ≡ suc (most - (i + 1)) = omega arith in
        rw e (exits_at (least - i) (most - (i + 1)) (least - (i + 1)) refl refl)

module _ (a : Unrolled) (least i : ℕ) (active : ℕ → Bool) (c off : ℕ) (entered : Bool) where
  step_at : (l m k : ℕ) → l ≡ least - i → k ≡ least - (i + 1)
      → step active c (counted l (suc m) a) off entered
      ≡ step active c a off entered ++ step active c (counted k m a) (off + letters a)
      (exits active a off entered)
  step_at zero m k e f = let g : k ≡ 0 = omega arith in rw g refl
  step_at (suc l) m k e f = let g : k ≡ l = omega arith in rw g refl

  pub counted-step : (most : ℕ) → i < most → step active c (counted (least - i) (most - i) a) off entered
      ≡ step active c a off entered ++ step active c (counted (least - (i + 1)) (most - (i + 1)) a)
      (off + letters a) (exits active a off entered)
  counted-step most lt =
      let e : most - i ≡ suc (most - (i + 1)) = omega arith in
      rw e (step_at (least - i) (most - (i + 1)) (least - (i + 1)) refl refl)

-- ---- copies that are neither entered nor active

module _ (active : ℕ → Bool) (a : Unrolled) where
  front : (n off : ℕ) → Inactive active off (suc n * letters a) → Inactive active off (letters a)
  front n off h k low high = h k low (grind arith)

  back : (n off : ℕ) → Inactive active off (suc n * letters a) →
      Inactive active (off + letters a) (n * letters a)
  back n off h k low high =
      let e : off + (letters a + k) ≡ (off + letters a) + k = omega arith in
      let within : letters a + k ≤ suc n * letters a = grind arith in
      subst (λ x. active x ≡ false) e (h (letters a + k) (omega arith) within)

  further : (n off : ℕ) → (off + letters a) + n * letters a ≡ off + suc n * letters a
  further n off = grind arith

  one_skipped : (l m off : ℕ) → Inactive active off (letters a) →
      exits active (counted l (suc m) a) off false ≡
      exits active (counted (l - 1) m a) (off + letters a) false
  one_skipped zero m off h = ap (λ e. exits active (counted zero m a) (off + letters a) e)
      (inactive_exits active a off h)
  one_skipped (suc l) m off h =
      let less : l ≡ suc l - 1 = omega arith in
      subst (λ n. exits active (counted (suc l) (suc m) a) off false ≡ exits active (counted n m a)
      (off + letters a) false) less
      (ap (λ e. exits active (counted l m a) (off + letters a) e) (inactive_exits active a off h))

  pub skipped : (n l m off : ℕ) → n ≤ m → Inactive active off (n * letters a) →
      exits active (counted l m a) off false ≡ exits active (counted (l - n) (m - n) a) (off + n * letters a)
      false
  skipped zero l m off le h =
      let e : off + 0 * letters a ≡ off = omega arith in
      let f : l - 0 ≡ l = omega arith in
      let g : m - 0 ≡ m = omega arith in
      rw (e, f, g) refl
  skipped (suc n) l zero off le h = absurd (omega arith)
  skipped (suc n) l (suc m) off le h =
      let f : l - 1 - n ≡ l - suc n = omega arith in
      let g : m - n ≡ suc m - suc n = omega arith in
      one_skipped l m off (front n off h)
      ∙ skipped n (l - 1) m (off + letters a) (omega arith) (back n off h)
      ∙ ap₂ (λ x y. exits active (counted x y a) ((off + letters a) + n * letters a) false) f g
      ∙ ap (λ x. exits active (counted (l - suc n) (suc m - suc n) a) x false) (further n off)

  module _ (c : ℕ) where
    one_unread : (l m off : ℕ) → Inactive active off (letters a) →
        step active c (counted l (suc m) a) off false ≡ step active c (counted (l - 1) m a)
        (off + letters a) false
    one_unread zero m off h =
        ap₂ (λ x y. x ++ y) (inactive_step active c a off h)
        (ap (λ e. step active c (counted zero m a) (off + letters a) e) (inactive_exits active a off h))
    one_unread (suc l) m off h =
        let less : l ≡ suc l - 1 = omega arith in
        subst (λ n. step active c (counted (suc l) (suc m) a) off false ≡ step active c (counted n m a)
        (off + letters a) false) less
        (ap₂ (λ x y. x ++ y) (inactive_step active c a off h)
        (ap (λ e. step active c (counted l m a) (off + letters a) e) (inactive_exits active a off h)))

    pub unread : (n l m off : ℕ) → n ≤ m → Inactive active off (n * letters a) →
        step active c (counted l m a) off false ≡ step active c (counted (l - n) (m - n) a)
        (off + n * letters a) false
    unread zero l m off le h =
        let e : off + 0 * letters a ≡ off = omega arith in
        let f : l - 0 ≡ l = omega arith in
        let g : m - 0 ≡ m = omega arith in
        rw (e, f, g) refl
    unread (suc n) l zero off le h = absurd (omega arith)
    unread (suc n) l (suc m) off le h =
        let f : l - 1 - n ≡ l - suc n = omega arith in
        let g : m - n ≡ suc m - suc n = omega arith in
        one_unread l m off (front n off h)
        ∙ unread n (l - 1) m (off + letters a) (omega arith) (back n off h)
        ∙ ap₂ (λ x y. step active c (counted x y a) ((off + letters a) + n * letters a) false) f g
        ∙ ap (λ x. step active c (counted (l - suc n) (suc m - suc n) a) x false) (further n off)

-- ---- how many letters are left

pub letters-skipped : (a : Unrolled) (n l m past : ℕ) → n ≤ m →
    (past + n * letters a) + letters (counted (l - n) (m - n) a) ≡ past + letters (counted l m a)
letters-skipped a n l m past le =
    let e : m ≡ n + (m - n) = omega arith in
    let all : letters (counted l m a) ≡ m * letters a = letters-counted a l m in
    let rest : letters (counted (l - n) (m - n) a) ≡ (m - n) * letters a =
    letters-counted a (l - n) (m - n) in
    let sum : m * letters a ≡ n * letters a + (m - n) * letters a = ap (λ x. x * letters a) e
    ∙ add-mul n (m - n) (letters a) in
    omega (arith, all, rest, sum)
