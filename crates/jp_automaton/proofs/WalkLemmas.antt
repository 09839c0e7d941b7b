-- A walk over an expression, from the walks over its expressions.
use Rattle.std.proofs.Common.{◌≡◌, ℕ, zero, suc, ◌+◌, ◌-◌, ◌*◌, ◌≤◌, ◌<◌, Bool, true, false, ◌&&◌, ◌||◌}
use Rattle.std.proofs.Common.{nat_le, List, [], ◌∷◌, map, drop, get_or, length, drop-cons, refl, sym, ap, ap₂}
use Rattle.std.proofs.Common.{◌∙◌, subst, arith, IsTrue, mul-le-mul_right}
use Rattle.jp_automaton.specs.declared.cursor.Cursor.{Cursor}
use Rattle.jp_automaton.specs.declared.expressions.Expression.{Expression}
use Rattle.jp_automaton.specs.Expressions.{meaning, in_turn_of, unrolled_in, unrolled_in_turn}
use Rattle.jp_automaton.specs.Expressions.{branches_before}
use Rattle.jp_pattern.specs.Unrolled.{Unrolled, unrolled, nothing, seq, either, plus, counted}
use Rattle.jp_pattern.specs.Unrolled.{letters}
use Rattle.jp_automaton.specs.inner.Simulation.{exits, is_elem, Inactive, IsAt, IsWalk, or_entered}
use Rattle.jp_automaton.specs.inner.Simulation.{entered_as}
use Rattle.jp_pattern.proofs.UnrolledLemmas.{letters-counted}
use Rattle.jp_automaton.proofs.CopyLemmas.{counted-letters, counted-exits, skipped}
use Rattle.jp_automaton.proofs.CopyLemmas.{letters-skipped}

or_assoc : (x y z : Bool) → ((x || y) || z) ≡ (x || (y || z))
or_assoc true y z = refl
or_assoc false y z = refl

pub drop_none : (expressions : List Expression) (i : ℕ) → length expressions ≤ i → drop i expressions ≡ []
drop_none [] zero le = refl
drop_none [] (suc i) le = refl
drop_none (x ∷ expressions) zero le = absurd (omega arith)
drop_none (x ∷ expressions) (suc i) le = drop_none expressions i (omega arith)

-- one expression more of a list
one_more : (expressions : List Expression) (i : ℕ) (expression : Expression) → i < length expressions →
    expression ≡ get_or expressions i expression →
    map meaning (drop i expressions) ≡ meaning expression ∷ map meaning (drop (i + 1) expressions)
one_more expressions i expression lt e =
    let back : suc i ≡ i + 1 = omega arith in
    ap (map meaning) (drop-cons expressions i expression lt ∙ ap (λ x. x ∷ drop (suc i) expressions) (sym e)
    ∙ ap (λ n. expression ∷ drop n expressions) back)

pub piece_next : (expressions : List Expression) (i : ℕ) (expression : Expression) → i < length expressions →
    expression ≡ get_or expressions i expression →
    unrolled_in_turn (drop i expressions)
    ≡ seq (unrolled_in expression) (unrolled_in_turn (drop (i + 1) expressions))
piece_next expressions i expression lt e =
    ap (λ ms. unrolled (in_turn_of ms)) (one_more expressions i expression lt e)

pub branch_next : (expressions : List Expression) (q : Unrolled) (i : ℕ) (expression : Expression) →
    i < length expressions
    → expression ≡ get_or expressions i expression →
    branches_before (drop i expressions) q
    ≡ either (unrolled_in expression) (branches_before (drop (i + 1) expressions) q)
branch_next expressions q i expression lt e =
    let back : suc i ≡ i + 1 = omega arith in
    ap (λ ps. branches_before ps q) (drop-cons expressions i expression lt
    ∙ ap (λ x. x ∷ drop (suc i) expressions) (sym e)
    ∙ ap (λ n. expression ∷ drop n expressions) back)

module _ (positions : List ℕ) where
  pub nothing_walk : (x : Cursor) → IsAt positions x.past x.index → IsWalk positions nothing x x
  nothing_walk x at = record { past = omega arith; entered = refl; stands = at }

  pub seq_walk : (a b : Unrolled) (x y z : Cursor) → IsWalk positions a x y → IsWalk positions b y z
      → IsWalk positions (seq a b) x z
  seq_walk a b x y z f g = record {
    past = omega (arith, f.past, g.past);
    entered = g.entered ∙ ap₂ (λ n e. exits (is_elem positions) b n e) f.past f.entered;
    stands = g.stands;
  }

  pub either_walk : (a b : Unrolled) (x y z : Cursor) → IsWalk positions a x y
      → IsWalk positions b (entered_as x.entered y) z →
      IsWalk positions (either a b) x (or_entered y.entered z)
  either_walk a b x y z f g = record {
    past = omega (arith, f.past, g.past);
    entered = ap₂ (λ d e. d || e) f.entered (g.entered ∙ ap (λ n. exits (is_elem positions) b n x.entered)
        f.past);
    stands = g.stands;
  }

  pub or_walk : (p : Unrolled) (b d : Bool) (x z : Cursor) →
      IsWalk positions p x (or_entered b (or_entered d z))
      → IsWalk positions p x (or_entered (b || d) z)
  or_walk p b d x z f = record {
    past = f.past;
    entered = or_assoc b d z.entered ∙ f.entered;
    stands =
        f.stands;
  }

  module _ (a : Unrolled) (least i : ℕ) (x y z : Cursor) (f : IsWalk positions a x y) where
    pub copy_walk : (most : ℕ) → i < most → IsWalk positions
        (counted (least - (i + 1)) (most - (i + 1)) a) y z →
        IsWalk positions (counted (least - i) (most - i) a) x (or_entered (nat_le least i && x.entered) z)
    copy_walk most lt g = record {
      past = omega (arith, f.past, g.past, counted-letters a least i most lt);
      entered = ap (λ e. (nat_le least i && x.entered) || e)
          (g.entered ∙ ap₂ (λ n e. exits (is_elem positions)
          (counted (least - (i + 1)) (most - (i + 1)) a) n e)
          f.past f.entered)
          ∙ sym (counted-exits a least i (is_elem positions) x.past x.entered most lt);
      stands = g.stands;
    }

  module _ (a : Unrolled) (n least : ℕ) (x z : Cursor) (none : x.entered ≡ false)
      (inactive : Inactive (is_elem positions) x.past (n * letters a)) where
    pub skip_walk : (most : ℕ) → n ≤ most
        → IsWalk positions (counted (least - n) (most - n) a) (record x { past = x.past + n * letters a }) z →
        IsWalk positions (counted least most a) x z
    skip_walk most le g = record {
      past = g.past ∙ letters-skipped a n least most x.past le;
      entered = g.entered ∙ ap (λ e. exits (is_elem positions) (counted (least - n) (most - n) a)
          (x.past + n * letters a) e) none
          ∙ sym (skipped (is_elem positions) a n least most x.past le inactive)
          ∙ ap (λ e. exits (is_elem positions) (counted least most a) x.past e) (sym none);
      stands = g.stands;
    }

  -- a copy that may be repeated ends where one does
  pub plus_walk : (a : Unrolled) (x y : Cursor) → IsWalk positions (plus a) x y → IsWalk positions a x y
  plus_walk a x y f = record { past = f.past; entered = f.entered; stands = f.stands }

-- ---- the loops over the copies

module _ (a : Unrolled) (least most i here past : ℕ) (lt : i < most)
    (total : here + letters (counted (least - i) (most - i) a) ≡ past + letters (counted least most a))
    (fits : past + letters (counted least most a) ≤ 10_000) where
  pub copies_fit : here + (most - i) * letters a ≤ 10_000
  copies_fit = omega (arith, total, fits, letters-counted a (least - i) (most - i))

  pub copy_fits : here + letters a ≤ 10_000
  copy_fits = omega (arith, total, fits, counted-letters a least i most lt)

pub some_idle : (past n m s : ℕ) → n ≤ m → past + m * s ≤ 10_000 → past + n * s ≤ 10_000
some_idle past n m s le fits = let h : n * s ≤ m * s = mul-le-mul_right s le in omega arith

pub not_entered : (b : Bool) (n : ℕ) → (IsTrue b → n ≡ 0) → 0 < n → b ≡ false
not_entered true n h lt = absurd (let e = h refl in omega arith)
not_entered false n h lt = refl

module _ (positions : List ℕ) (a : Unrolled) (i n size least : ℕ) (x z : Cursor) (e : size ≡ letters a)
    (none : x.entered ≡ false)
    (inactive : Inactive (is_elem positions) x.past (n * size)) where
  behind : ℕ → Cursor
  behind s = record { past = x.past + n * s; index = x.index; entered = x.entered }

  inactive_letters : Inactive (is_elem positions) x.past (n * letters a)
  inactive_letters = subst (λ s. Inactive (is_elem positions) x.past (n * s)) e inactive

  pub skip_copies : (most : ℕ) → n ≤ most - i →
      IsWalk positions (counted (least - (i + n)) (most - (i + n)) a)
      (record { past = x.past + n * size; index = x.index; entered = x.entered }) z →
      IsWalk positions (counted (least - i) (most - i) a) x z
  unfolding behind
  skip_copies most le w =
      let f : least - (i + n) ≡ least - i - n = omega arith in
      let g : most - (i + n) ≡ most - i - n = omega arith in
      let v = subst (λ s. IsWalk positions (counted (least - (i + n)) (most - (i + n)) a) (behind s) z) e w in
      let u = subst (λ k. IsWalk positions (counted k (most - (i + n)) a) (behind (letters a)) z) f v in
      skip_walk positions a n (least - i) x z none inactive_letters (most - i) le
      (subst (λ k. IsWalk positions (counted (least - i - n) k a) (behind (letters a)) z) g u)

pub total_skipped : (a : Unrolled) (least most i n size here total : ℕ) → size ≡ letters a → n ≤ most - i →
    here + letters (counted (least - i) (most - i) a) ≡ total →
    (here + n * size) + letters (counted (least - (i + n)) (most - (i + n)) a) ≡ total
total_skipped a least most i n size here total e le kept =
    let f : least - (i + n) ≡ least - i - n = omega arith in
    let g : most - (i + n) ≡ most - i - n = omega arith in
    ap₂ (λ k m. (here + n * size) + letters (counted k m a)) f g
    ∙ ap (λ s. (here + n * s) + letters (counted (least - i - n) (most - i - n) a)) e
    ∙ letters-skipped a n (least - i) (most - i) here le ∙ kept
