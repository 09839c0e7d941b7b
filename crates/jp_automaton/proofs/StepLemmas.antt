-- One step on a set of positions.
use Rattle.std.proofs.Common.{◌≡◌, ℕ, ◌+◌, ◌≤◌, ◌<◌, ◌⊎◌, Bool, true, false, ◌&&◌, ◌||◌, if◌then◌else◌}
use Rattle.std.proofs.Common.{IsTrue, List, [], ◌∷◌, ◌++◌, length, None, refl, sym, ap, ap₂, ◌∙◌, subst, inl}
use Rattle.std.proofs.Common.{inr, ⊎_elim, arith, true≢false, add_assoc}
use Rattle.std.specs.List.{concat, AllByRecursion}
use Rattle.std.proofs.lemmas.Bool.{and_parts, and_from, or_cases, or_left, or_right}
use Rattle.jp_pattern.specs.Language.{Repeated}
use Rattle.jp_pattern.specs.CharSets.{in_set}
use Rattle.jp_pattern.specs.Pattern.{Text}
use Rattle.jp_pattern.specs.Unrolled.{Unrolled, nothing, letter, seq, either, maybe, plus, Has, letters}
use Rattle.jp_pattern.specs.Unrolled.{After}
use Rattle.jp_automaton.specs.inner.Simulation.{exits, step, Elem}
use Rattle.jp_pattern.proofs.PartLemmas.{then_read, read_then, empty_then, then_empty, repeated_read_on}
use Rattle.jp_pattern.proofs.PartLemmas.{read_repeated_on}

-- ---- numbers of positions

pub After-within : (p : Unrolled) (k : ℕ) (t : Text) → After p k t → (0 < k) × (k ≤ letters p)
After-within nothing k t m = absurd m
After-within (letter set) k t m = omega arith
After-within (seq a b) k t (inl (u, v, e, x, y)) = let r = After-within a k u x in omega arith
After-within (seq a b) k t (inr (j, e, x)) = let r = After-within b j t x in omega arith
After-within (either a b) k t (inl x) = let r = After-within a k t x in omega arith
After-within (either a b) k t (inr (j, e, x)) = let r = After-within b j t x in omega arith
After-within (maybe a) k t x = After-within a k t x
After-within (plus a) k t (u, v, e, x, y) = After-within a k u x

pub Elem-parts : (x : ℕ) (xs ys : List ℕ) → Elem x (xs ++ ys) → Elem x xs ⊎ Elem x ys
Elem-parts x [] ys h = inr h
Elem-parts x (z ∷ xs) ys (inl e) = inl (inl e)
Elem-parts x (z ∷ xs) ys (inr h) = ⊎_elim (λ l. inl (inr l)) (λ r. inr r) (Elem-parts x xs ys h)

pub Elem-left : (x : ℕ) (xs ys : List ℕ) → Elem x xs → Elem x (xs ++ ys)
Elem-left x [] ys h = absurd h
Elem-left x (z ∷ xs) ys (inl e) = inl e
Elem-left x (z ∷ xs) ys (inr h) = inr (Elem-left x xs ys h)

pub Elem-right : (x : ℕ) (xs ys : List ℕ) → Elem x ys → Elem x (xs ++ ys)
Elem-right x [] ys h = h
Elem-right x (z ∷ xs) ys h = inr (Elem-right x xs ys h)

Elem-one : (x y : ℕ) (b : Bool) → Elem x (if b then y ∷ [] else []) → IsTrue b × (x ≡ y)
Elem-one x y true (inl e) = (refl, e)
Elem-one x y true (inr h) = absurd h
Elem-one x y false h = absurd h

one-Elem : (x y : ℕ) (b : Bool) → IsTrue b → x ≡ y → Elem x (if b then y ∷ [] else [])
one-Elem x y true h e = inl e
one-Elem x y false h e = absurd (true≢false (sym h))

first_empty : (X : Text → Type 0) (parts : List Text) → AllByRecursion X parts → 1 ≤ length parts
    → [] ≡ concat parts → X []
first_empty X [] all low e = absurd (omega arith)
first_empty X ([] ∷ parts) all low e = all.0
first_empty X ((d ∷ u) ∷ parts) all low e = absurd (cc)

module _ (active : ℕ → Bool) where
  -- some active position has the text
  abbrev pub Active : Unrolled → ℕ → Text → Type 0
  Active p off t = (k : ℕ) × IsTrue (active (off + k)) × After p k t

  further : (off s j : ℕ) → IsTrue (active ((off + s) + j)) → IsTrue (active (off + (s + j)))
  further off s j h = subst (λ n. IsTrue (active n)) (add_assoc off s j) h

  nearer : (off s j k : ℕ) → k ≡ s + j → IsTrue (active (off + k)) → IsTrue (active ((off + s) + j))
  nearer off s j k e h =
      let same : off + k ≡ (off + s) + j = omega arith in
      subst (λ n. IsTrue (active n)) same h

  -- the text goes on from the start, either from an active position
  abbrev pub Held : Unrolled → ℕ → Bool → Text → Type 0
  Held p off entered t = (IsTrue entered × Has p t) ⊎ Active p off t

  pub exits_sound : (p : Unrolled) (off : ℕ) (entered : Bool) → exits active p off entered ≡ true
      → Held p off entered []
  exits_sound nothing off entered e = inl (e, refl)
  exits_sound (letter set) off entered e = inr (1, e, (refl, refl))
  exits_sound (seq a b) off entered e =
      ⊎_elim
      (λ h. ⊎_elim
      (λ f. inl (f.0, empty_then (Has a) (Has b) [] f.1 h.1))
      (λ r. inr (r.0, r.1, inl (empty_then (After a r.0) (Has b) [] r.2 h.1)))
      (exits_sound a off entered h.0))
      (λ r. inr (letters a + r.0, further off (letters a) r.0 r.1, inr (r.0, refl, r.2)))
      (exits_sound b (off + letters a) (exits active a off entered) e)
  exits_sound (either a b) off entered e =
      ⊎_elim
      (λ h. ⊎_elim (λ f. inl (f.0, inl f.1)) (λ r. inr (r.0, r.1, inl r.2)) (exits_sound a off entered h))
      (λ h. ⊎_elim (λ f. inl (f.0, inr f.1))
      (λ r. inr (letters a + r.0, further off (letters a) r.0 r.1, inr (r.0, refl, r.2)))
      (exits_sound b (off + letters a) entered h))
      (or_cases _ _ e)
  exits_sound (maybe a) off entered e =
      ⊎_elim (λ h. inl (h, inl refl))
      (λ h. ⊎_elim (λ f. inl (f.0, inr f.1)) (λ r. inr r) (exits_sound a off entered h))
      (or_cases _ _ e)
  exits_sound (plus a) off entered e =
      ⊎_elim
      (λ f. inl (f.0, ([] ∷ [], (f.1, tt), omega arith, tt, refl)))
      (λ r. inr (r.0, r.1, ([], [], refl, r.2, ([], tt, omega arith, tt, refl))))
      (exits_sound a off entered e)

  pub exits_whole : (p : Unrolled) (off : ℕ) (entered : Bool) → Held p off entered []
      → exits active p off entered ≡ true
  exits_whole nothing off entered (inl (f, m)) = f
  exits_whole nothing off entered (inr (k, l, m)) = absurd m
  exits_whole (letter set) off entered (inl (f, (c, e, m))) = absurd (cc)
  exits_whole (letter set) off entered (inr (k, l, (e, m))) = subst (λ n. active (off + n) ≡ true) e l
  exits_whole (seq a b) off entered (inl (f, m)) =
      let r = then_empty (Has a) (Has b) m in
      exits_whole b _ _ (inl (exits_whole a off entered (inl (f, r.0)), r.1))
  exits_whole (seq a b) off entered (inr (k, l, inl m)) =
      let r = then_empty (After a k) (Has b) m in
      exits_whole b _ _ (inl (exits_whole a off entered (inr (k, l, r.0)), r.1))
  exits_whole (seq a b) off entered (inr (k, l, inr (j, e, m))) =
      exits_whole b _ _ (inr (j, nearer off (letters a) j k e l, m))
  exits_whole (either a b) off entered (inl (f, inl m)) =
      or_left _ _ (exits_whole a off entered (inl (f, m)))
  exits_whole (either a b) off entered (inl (f, inr m)) =
      or_right _ _ (exits_whole b _ entered (inl (f, m)))
  exits_whole (either a b) off entered (inr (k, l, inl m)) =
      or_left _ _ (exits_whole a off entered (inr (k, l, m)))
  exits_whole (either a b) off entered (inr (k, l, inr (j, e, m))) =
      or_right _ _ (exits_whole b _ entered (inr (j, nearer off (letters a) j k e l, m)))
  exits_whole (maybe a) off entered (inl (f, m)) = or_left _ _ f
  exits_whole (maybe a) off entered (inr l) = or_right _ _ (exits_whole a off entered (inr l))
  exits_whole (plus a) off entered (inl (f, (parts, all, low, high, e))) =
      exits_whole a off entered (inl (f, first_empty (Has a) parts all low e))
  exits_whole (plus a) off entered (inr (k, l, m)) =
      exits_whole a off entered (inr (k, l, (then_empty (After a k) (Repeated (Has a) 0 None) m).0))

  -- from no start, only an active position leads to the end
  pub active_end : (p : Unrolled) (off : ℕ) → exits active p off false ≡ true → Active p off []
  active_end p off e = ⊎_elim (λ f. absurd (true≢false (sym f.0))) (λ r. r) (exits_sound p off false e)

  -- to reach the end again changes nothing there
  pub exits_again : (p : Unrolled) (off : ℕ) (entered : Bool)
      → exits active p off (entered || exits active p off false) ≡ exits active p off entered
  exits_again p off true = refl
  exits_again p off false = at_end (exits active p off false) refl where
    at_end : (b : Bool) → exits active p off false ≡ b → exits active p off b ≡ exits active p off false
    at_end false e = refl
    at_end true e = exits_whole p off true (inr (active_end p off e)) ∙ sym e

  module _ (c : ℕ) where
    -- some position that was read has the text
    abbrev pub Reached : Unrolled → ℕ → Bool → Text → Type 0
    Reached p off entered t = (k : ℕ) × Elem (off + k) (step active c p off entered) × After p k t

    -- the text after c was in the set
    abbrev pub Before : Unrolled → ℕ → Bool → Text → Type 0
    Before p off entered t = Held p off entered (c ∷ t)

    pub step_within : (p : Unrolled) (off : ℕ) (entered : Bool) (x : ℕ)
        → Elem x (step active c p off entered) →
        (off < x) × (x ≤ off + letters p)
    step_within nothing off entered x h = absurd h
    step_within (letter set) off entered x h = let r = Elem-one x (off + 1) (entered && in_set set c) h in
        omega arith
    step_within (seq a b) off entered x h =
        ⊎_elim
        (λ l. let r = step_within a off entered x l in omega arith)
        (λ l. let r = step_within b (off + letters a) (exits active a off entered) x l in omega arith)
        (Elem-parts x _ _ h)
    step_within (either a b) off entered x h =
        ⊎_elim
        (λ l. let r = step_within a off entered x l in omega arith)
        (λ l. let r = step_within b (off + letters a) entered x l in omega arith)
        (Elem-parts x _ _ h)
    step_within (maybe a) off entered x h = step_within a off entered x h
    step_within (plus a) off entered x h = step_within a off (entered || exits active a off false) x h

    pub step_none : (p : Unrolled) (off : ℕ) (entered : Bool) → letters p ≡ 0
        → step active c p off entered ≡ []
    step_none nothing off entered e = refl
    step_none (letter set) off entered e = absurd (omega arith)
    step_none (seq a b) off entered e =
        ap₂ (λ xs ys. xs ++ ys) (step_none a off entered (omega arith)) (step_none b _ _ (omega arith))
    step_none (either a b) off entered e =
        ap₂ (λ xs ys. xs ++ ys) (step_none a off entered (omega arith)) (step_none b _ _ (omega arith))
    step_none (maybe a) off entered e = step_none a off entered e
    step_none (plus a) off entered e = step_none a off _ e

    -- a position of the second part is none of the first
    on_left : (a : Unrolled) (off k : ℕ) (entered : Bool) (t : Text) (ys : List ℕ)
        → ((x : ℕ) → Elem x ys → off + letters a < x) →
        After a k t → Elem (off + k) (step active c a off entered ++ ys)
        → Elem (off + k) (step active c a off entered)
    on_left a off k entered t ys far m h =
        ⊎_elim (λ l. l) (λ l. let r = After-within a k t m in let f = far (off + k) l in absurd (omega arith))
        (Elem-parts _ _ ys h)

    on_right : (a : Unrolled) (off j : ℕ) (entered : Bool) (ys : List ℕ) → 0 < j →
        Elem (off + (letters a + j)) (step active c a off entered ++ ys) → Elem ((off + letters a) + j) ys
    on_right a off j entered ys some h =
        ⊎_elim
        (λ l. let r = step_within a off entered (off + (letters a + j)) l in absurd (omega arith))
        (λ l. subst (λ n. Elem n ys) (sym (add_assoc off (letters a) j)) l)
        (Elem-parts _ _ ys h)

    pub step_sound : (p : Unrolled) (off : ℕ) (entered : Bool) (k : ℕ) (t : Text) →
        Elem (off + k) (step active c p off entered) → After p k t → Before p off entered t
    step_sound nothing off entered k t h m = absurd m
    step_sound (letter set) off entered k t h (e, m) =
        let r = Elem-one (off + k) (off + 1) (entered && in_set set c) h in
        let both = and_parts entered (in_set set c) r.0 in
        inl (both.0, (c, ap (λ v. c ∷ v) m, both.1))
    step_sound (seq a b) off entered k t h (inl (u, w, e, x, y)) =
        let next = exits active a off entered in
        let here = on_left a off k entered u (step active c b (off + letters a) next)
        (λ n l. (step_within b (off + letters a) next n l).0) x h in
        ⊎_elim
        (λ l. inl (l.0, read_then (Has a) (Has b) c t (u, w, e, l.1, y)))
        (λ l. inr (l.0, l.1, inl (read_then (After a l.0) (Has b) c t (u, w, e, l.2, y))))
        (step_sound a off entered k u here x)
    step_sound (seq a b) off entered k t h (inr (j, e, m)) =
        let next = exits active a off entered in
        let some = (After-within b j t m).0 in
        let here = on_right a off j entered (step active c b (off + letters a) next) some
        (subst (λ n. Elem (off + n) (step active c (seq a b) off entered)) e h) in
        ⊎_elim
        (λ l. ⊎_elim
        (λ f. inl (f.0, empty_then (Has a) (Has b) (c ∷ t) f.1 l.1))
        (λ r. inr (r.0, r.1, inl (empty_then (After a r.0) (Has b) (c ∷ t) r.2 l.1)))
        (exits_sound a off entered l.0))
        (λ l. inr (letters a + l.0, further off (letters a) l.0 l.1, inr (l.0, refl, l.2)))
        (step_sound b (off + letters a) next j t here m)
    step_sound (either a b) off entered k t h (inl m) =
        let here = on_left a off k entered t (step active c b (off + letters a) entered)
        (λ n l. (step_within b (off + letters a) entered n l).0) m h in
        ⊎_elim (λ l. inl (l.0, inl l.1)) (λ l. inr (l.0, l.1, inl l.2))
        (step_sound a off entered k t here m)
    step_sound (either a b) off entered k t h (inr (j, e, m)) =
        let some = (After-within b j t m).0 in
        let here = on_right a off j entered (step active c b (off + letters a) entered) some
        (subst (λ n. Elem (off + n) (step active c (either a b) off entered)) e h) in
        ⊎_elim (λ l. inl (l.0, inr l.1))
        (λ l. inr (letters a + l.0, further off (letters a) l.0 l.1, inr (l.0, refl, l.2)))
        (step_sound b (off + letters a) entered j t here m)
    step_sound (maybe a) off entered k t h m =
        ⊎_elim (λ l. inl (l.0, inr l.1)) (λ l. inr l) (step_sound a off entered k t h m)
    step_sound (plus a) off entered k t h (u, w, e, x, y) =
        ⊎_elim
        (λ l. ⊎_elim
        (λ f. inl (f, read_repeated_on (Has a) c t 1 (u, w, e, l.1, y)))
        (λ f. let r = active_end a off f in
        inr (
          r.0,
          r.1,
          empty_then (After a r.0) (Repeated (Has a) 0 None) (c ∷ t) r.2
              (read_repeated_on (Has a) c t 0 (u, w, e, l.1, y)),
        ))
        (or_cases entered (exits active a off false) l.0))
        (λ l. inr (l.0, l.1, read_then (After a l.0) (Repeated (Has a) 0 None) c t (u, w, e, l.2, y)))
        (step_sound a off (entered || exits active a off false) k u h x)

    to_right : (a b : Unrolled) (off : ℕ) (entered next : Bool) (t : Text)
        → Reached b (off + letters a) next t →
        (k : ℕ) × Elem (off + k) (step active c a off entered ++ step active c b (off + letters a) next)
        × ((j : ℕ) × (k ≡ letters a + j) × After b j t)
    to_right a b off entered next t (j, h, m) =
        let moved = subst (λ n. Elem n (step active c b (off + letters a) next))
        (add_assoc off (letters a) j) h in
        (letters a + j, Elem-right _ (step active c a off entered) _ moved, (j, refl, m))

    pub step_whole : (p : Unrolled) (off : ℕ) (entered : Bool) (t : Text) → Before p off entered t
        → Reached p off entered t
    step_whole nothing off entered t (inl (f, m)) = absurd (cc)
    step_whole nothing off entered t (inr (k, l, m)) = absurd m
    step_whole (letter set) off entered t (inl (f, (d, e, m))) =
        let same : d ≡ c = cc in
        let rest : t ≡ [] = cc in (
          1,
          one-Elem (off + 1) (off + 1) (entered && in_set set c)
              (and_from _ _ f (subst (λ n. IsTrue (in_set set n)) same m)) refl,
          (refl, rest),
        )
    step_whole (letter set) off entered t (inr (k, l, (e, m))) = absurd (cc)
    step_whole (seq a b) off entered t (inl (f, m)) =
        let next = exits active a off entered in
        ⊎_elim
        (λ h. let r = step_whole a off entered h.0 (inl (f, h.3)) in
        (r.0, Elem-left _ _ _ r.1, inl (h.0, h.1, h.2, r.2, h.4)))
        (λ h. let go = exits_whole a off entered (inl (f, h.0)) in
        let r = to_right a b off entered next t (step_whole b (off + letters a) next t (inl (go, h.1))) in
        (r.0, r.1, inr r.2))
        (then_read (Has a) (Has b) c t m)
    step_whole (seq a b) off entered t (inr (k, l, inl m)) =
        let next = exits active a off entered in
        ⊎_elim
        (λ h. let r = step_whole a off entered h.0 (inr (k, l, h.3)) in
        (r.0, Elem-left _ _ _ r.1, inl (h.0, h.1, h.2, r.2, h.4)))
        (λ h. let go = exits_whole a off entered (inr (k, l, h.0)) in
        let r = to_right a b off entered next t (step_whole b (off + letters a) next t (inl (go, h.1))) in
        (r.0, r.1, inr r.2))
        (then_read (After a k) (Has b) c t m)
    step_whole (seq a b) off entered t (inr (k, l, inr (j, e, m))) =
        let next = exits active a off entered in
        let r = to_right a b off entered next t
        (step_whole b (off + letters a) next t (inr (j, nearer off (letters a) j k e l, m))) in
        (r.0, r.1, inr r.2)
    step_whole (either a b) off entered t (inl (f, inl m)) =
        let r = step_whole a off entered t (inl (f, m)) in (r.0, Elem-left _ _ _ r.1, inl r.2)
    step_whole (either a b) off entered t (inl (f, inr m)) =
        let r = to_right a b off entered entered t (step_whole b (off + letters a) entered t
        (inl (f, m))) in
        (r.0, r.1, inr r.2)
    step_whole (either a b) off entered t (inr (k, l, inl m)) =
        let r = step_whole a off entered t (inr (k, l, m)) in (r.0, Elem-left _ _ _ r.1, inl r.2)
    step_whole (either a b) off entered t (inr (k, l, inr (j, e, m))) =
        let r = to_right a b off entered entered t
        (step_whole b (off + letters a) entered t (inr (j, nearer off (letters a) j k e l, m))) in
        (r.0, r.1, inr r.2)
    step_whole (maybe a) off entered t (inl (f, inl m)) = absurd (cc)
    step_whole (maybe a) off entered t (inl (f, inr m)) = step_whole a off entered t (inl (f, m))
    step_whole (maybe a) off entered t (inr l) = step_whole a off entered t (inr l)
    step_whole (plus a) off entered t (inl (f, m)) =
        let h = repeated_read_on (Has a) c t 1 m in
        let r = step_whole a off (entered || exits active a off false) h.0 (inl (or_left _ _ f, h.3)) in
        (r.0, r.1, (h.0, h.1, h.2, r.2, h.4))
    step_whole (plus a) off entered t (inr (k, l, m)) =
        ⊎_elim
        (λ h. let r = step_whole a off (entered || exits active a off false) h.0 (inr (k, l, h.3)) in
        (r.0, r.1, (h.0, h.1, h.2, r.2, h.4)))
        (λ g. let h = repeated_read_on (Has a) c t 0 g.1 in
        let r = step_whole a off (entered || exits active a off false) h.0
        (inl (or_right _ _ (exits_whole a off false (inr (k, l, g.0))), h.3)) in
        (r.0, r.1, (h.0, h.1, h.2, r.2, h.4)))
        (then_read (After a k) (Repeated (Has a) 0 None) c t m)
