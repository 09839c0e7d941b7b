-- The positions of a set that lie behind a point.
use Rattle.std.proofs.Common.{◌≡◌, ℕ, zero, suc, ◌+◌, ◌*◌, ◌<◌, ◌≤◌, ◌-◌, ◌/◌, ◌⊎◌, true, false, ◌||◌, nat_le}
use Rattle.std.proofs.Common.{nat_lt, inl, inr, slice_index_or, List, [], ◌∷◌, length, drop, drop-cons, refl}
use Rattle.std.proofs.Common.{sym, ap, ap₂, ◌∙◌, subst, arith, mul-le-mul_right}
use Rattle.std.proofs.Math.Nat.{div-mul-le_self}
use Rattle.std.proofs.lemmas.Bool.{eq-eqb, ne_eqb, cases_Bool, and_parts, leb-true, leb-false, ltb-true}
use Rattle.std.proofs.lemmas.Bool.{ltb-false}
use Rattle.jp_automaton.specs.declared.cursor.Cursor.{Cursor}
use Rattle.jp_pattern.specs.Pattern.{CharSet}
use Rattle.jp_pattern.specs.Unrolled.{letter}
use Rattle.jp_automaton.specs.inner.Simulation.{exits, step, is_elem, Rises, IsRest, IsAt, Inactive, IsWalk}
use Rattle.jp_automaton.specs.inner.Simulation.{IsPassed}
use Rattle.jp_automaton.specs.inner.Simulation.{is_active_up_to}
use Rattle.jp_automaton.proofs.SkipLemmas.{inactive_exits, inactive_step, none_exits}
use Rattle.jp_automaton.proofs.StepLemmas.{step_none}

-- what rises from above low on has nothing up to low
later : (low k : ℕ) (xs : List ℕ) → Rises low xs → k ≤ low → is_elem xs k ≡ false
later low k [] h le = refl
later low k (x ∷ xs) h le = ap₂ (λ a b. a || b) (ne_eqb k x (λ e. omega arith))
    (later x k xs h.1 (omega arith))

module _ (positions : List ℕ) (past : ℕ) where
  pub none_inactive : IsRest positions past [] → (n : ℕ) → Inactive (is_elem positions) past n
  none_inactive h n k low high = h.same (past + k) (omega arith)

  pub none_rest : IsRest positions past [] → (n : ℕ) → IsRest positions (past + n) []
  none_rest h n = record { rises = tt; same = λ k lt. h.same k (omega arith) }

  module _ (q : ℕ) (rest : List ℕ) (h : IsRest positions past (q ∷ rest)) where
    pub front_inactive : (n : ℕ) → past + n < q → Inactive (is_elem positions) past n
    front_inactive n lt k low high =
        h.same (past + k) (omega arith)
        ∙ ap₂ (λ a b. a || b) (ne_eqb (past + k) q (λ e. omega arith))
        (later q (past + k) rest h.rises.1 (omega arith))

    pub front_rest : (n : ℕ) → past + n < q → IsRest positions (past + n) (q ∷ rest)
    front_rest n lt = record { rises = (lt, h.rises.1); same = λ k le. h.same k (omega arith) }

    pub front_active : q ≡ past + 1 → is_elem positions (past + 1) ≡ true
    front_active e = h.same (past + 1) (omega arith)
        ∙ ap (λ b. b || is_elem rest (past + 1)) (eq-eqb (past + 1) q (sym e))

    pub front_gone : q ≡ past + 1 → IsRest positions (past + 1) rest
    front_gone e = record {
      rises = subst (λ n. Rises n rest) e h.rises.1;
      same = λ k le. h.same k (omega arith) ∙ ap (λ b. b || is_elem rest k) (ne_eqb k q (λ f. omega arith));
    }

rest_at : (xs : List ℕ) (i : ℕ) → i < length xs → drop i xs ≡ slice_index_or xs i 0 ∷ drop (i + 1) xs
rest_at xs i lt =
    let back : suc i ≡ i + 1 = omega arith in
    drop-cons xs i 0 lt ∙ ap (λ n. slice_index_or xs i 0 ∷ drop n xs) back

rest_none : (xs : List ℕ) (i : ℕ) → length xs ≤ i → drop i xs ≡ []
rest_none [] zero le = refl
rest_none [] (suc i) le = refl
rest_none (x ∷ xs) zero le = absurd (omega arith)
rest_none (x ∷ xs) (suc i) le = rest_none xs i (omega arith)

module _ (positions : List ℕ) (past index : ℕ) (at : IsAt positions past index) where
  abbrev Front : Type 0
  Front = (length positions ≤ index)
      ⊎ ((index < length positions)
      × IsRest positions past (slice_index_or positions index 0 ∷ drop (index + 1) positions))

  front : Front
  front =
      elim (cases_Bool (nat_lt index (length positions))) [
        | inl e ↦ let lt = ltb-true index (length positions) e in inr
            (lt, subst (IsRest positions past) (rest_at positions index lt) at)
        | inr e ↦ inl (ltb-false index (length positions) e)
      ]

  pub position_above : index < length positions → past < slice_index_or positions index 0
  position_above lt = (subst (IsRest positions past) (rest_at positions index lt) at).rises.0

  abbrev pub Passes : ℕ → Type 0
  Passes n = Inactive (is_elem positions) past n × IsAt positions (past + n) index

  pub passes_end : length positions ≤ index → (n : ℕ) → Passes n
  passes_end le n =
      let h = subst (IsRest positions past) (rest_none positions index le) at in (
        none_inactive positions past h n,
        subst (IsRest positions (past + n)) (sym (rest_none positions index le))
            (none_rest positions past h n),
      )

  pub passes_front : index < length positions → (n : ℕ) →
      past + n < slice_index_or positions index 0 → Passes n
  passes_front lt n far =
      let q = slice_index_or positions index 0 in
      let rest = drop (index + 1) positions in
      let h = subst (IsRest positions past) (rest_at positions index lt) at in (
        front_inactive positions past q rest h n far,
        subst (IsRest positions (past + n)) (sym (rest_at positions index lt))
            (front_rest positions past q rest h n far),
      )

  pub passes : (n : ℕ) → is_active_up_to positions index (past + n) ≡ false → Passes n
  passes n e =
      elim (cases_Bool (nat_lt index (length positions))) [
        | inl f ↦
            let lt = ltb-true index (length positions) f in
            let far : nat_le (slice_index_or positions index 0) (past + n) ≡ false = rw f at e in
            passes_front lt n (leb-false (slice_index_or positions index 0) (past + n) far)
        | inr f ↦ passes_end (ltb-false index (length positions) f) n
      ]

  pub finds : is_active_up_to positions index (past + 1) ≡ true →
      (is_elem positions (past + 1) ≡ true) × IsAt positions (past + 1) (index + 1)
  finds e =
      let both = and_parts (nat_lt index (length positions)) _ e in
      let lt = ltb-true index (length positions) both.0 in
      let q = slice_index_or positions index 0 in
      let h = subst (IsRest positions past) (rest_at positions index lt) at in
      let le = leb-true q (past + 1) both.1 in
      let same : q ≡ past + 1 = omega (arith, h.rises.0) in
      (front_active positions past q _ h same, front_gone positions past q _ h same)

module _ (positions : List ℕ) (at : Cursor) (stands : IsAt positions at.past at.index) where
  pub passed_none : (size : ℕ) → size ≡ 0 → IsPassed positions size at at
  passed_none size e = record {
    walk = λ p f. record {
      past = omega (arith, f);
      entered = sym (none_exits (is_elem positions) p at.past at.entered (f ∙ e));
      stands = stands;
    };
    reads = λ p c f. step_none (is_elem positions) c p at.past at.entered (f ∙ e);
  }

  pub passed_idle : (size : ℕ) → at.entered ≡ false →
      is_active_up_to positions at.index (at.past + size) ≡ false →
      IsPassed positions size at (record { past = at.past + size; index = at.index; entered = false })
  passed_idle size e none =
      let h = passes positions at.past at.index stands size none in
      record {
        walk = λ p f. record {
          past = ap (λ n. at.past + n) (sym f);
          entered = sym (ap (λ b. exits (is_elem positions) p at.past b) e
              ∙ inactive_exits (is_elem positions) p at.past
              (subst (Inactive (is_elem positions) at.past) (sym f) h.0));
          stands = h.1;
        };
        reads = λ p c f. ap (λ b. step (is_elem positions) c p at.past b) e
            ∙ inactive_step (is_elem positions) c p at.past
            (subst (Inactive (is_elem positions) at.past) (sym f) h.0);
      }

  pub letter_active : (set : CharSet) → is_active_up_to positions at.index (at.past + 1) ≡ true →
      IsWalk positions (letter set) at (record { past = at.past + 1; index = at.index + 1; entered = true })
  letter_active set e =
      let h = finds positions at.past at.index stands e in
      record { past = refl; entered = sym h.0; stands = h.1 }

  pub letter_inactive : (set : CharSet) → is_active_up_to positions at.index (at.past + 1) ≡ false →
      IsWalk positions (letter set) at (record { past = at.past + 1; index = at.index; entered = false })
  letter_inactive set e =
      let h = passes positions at.past at.index stands 1 e in
      record { past = refl; entered = sym (h.0 1 (omega arith) (omega arith)); stands = h.1 }

-- the copies in front of the first active one
module _ (q past size n : ℕ) where
  fewer : n ≤ (q - past - 1) / size → n * size ≤ ((q - past - 1) / size) * size
  fewer le = mul-le-mul_right size le

  pub idle_cursor : 0 < size → past < q → n ≤ (q - past - 1) / size → past + n * size < q
  idle_cursor some lt le = omega (arith, fewer le, div-mul-le_self (q - past - 1) size)
