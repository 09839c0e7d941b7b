-- What the reader reads as a pattern, the grammar spells.
use Rattle.std.proofs.Common.{◌≡◌, ℕ, zero, suc, ◌+◌, ◌-◌, ◌*◌, ◌⊎◌, true, ◌==◌, [], ◌∷◌, ◌++◌, length}
use Rattle.std.proofs.Common.{Option, Some, None, IsTrue, refl, sym, ap, ◌∙◌, subst, inl, inr, append_assoc}
use Rattle.std.proofs.Common.{append-nil}
use Rattle.std.specs.Prelude.{fold}
use Rattle.std.specs.List.{AllByRecursion}
use Rattle.std.proofs.lemmas.Bool.{cases_Bool}
use Rattle.jp_pattern.specs.Pattern.{Text, CharSet, Pattern, empty, letter, group, seq, either, repeat, plus}
use Rattle.jp_pattern.specs.Quantity.{is_digit, IsCount, count, star, question, exactly, at_least, between}
use Rattle.jp_pattern.specs.Shape.{IsPattern, last_branch, first_branch, no_piece, first_piece, IsPiece, once}
use Rattle.jp_pattern.specs.Shape.{repeated, once_or_more, IsAtom, character, parentheses, Shapes}
use Rattle.jp_pattern.specs.inner.Reading.{Parse, Change, set_at, digits_at, count_at, close_count_at}
use Rattle.jp_pattern.specs.inner.Reading.{after_comma_at, after_least_at, quantity_at, close_group_at}
use Rattle.jp_pattern.specs.inner.Reading.{atom_at}
use Rattle.jp_pattern.specs.inner.Reading.{with_quantity, piece_at, prepend, with_piece, pattern_at, if_whole}
use Rattle.jp_pattern.specs.inner.Reading.{read}
use Rattle.jp_pattern.proofs.PatternsRead.{read_whole}
use Rattle.jp_pattern.proofs.SetsSound.{using, Front, head, map_some, then_some, set_sound}

-- ---- quantities

digits_sound : (t : Text) (n : ℕ) → (s : Text) × (t ≡ s ++ (digits_at n t).1)
    × AllByRecursion (λ c. IsTrue (is_digit c)) s × ((digits_at n t).0 ≡ fold (λ m c. m * 10 + (c - 48)) n s)
digits_sound [] n = ([], refl, tt, refl)
digits_sound (c ∷ t) n =
    elim (cases_Bool (is_digit c)) [
      | inl h ↦ rw h (using (digits_sound t (n * 10 + (c - 48)))
          (λ (s, e, f, g). (c ∷ s, ap (λ u. c ∷ u) e, (h, f), g)))
      | inr h ↦ rw h ([], refl, tt, refl)
    ]

count_sound : (t : Text) (r : ℕ × Text) → count_at t ≡ Some r → Front IsCount t r
count_sound [] r e = absurd cc
count_sound (c ∷ t) r e =
    elim (cases_Bool (is_digit c)) [
      | inl h ↦
          let f = rw h at e in
          let same : digits_at (0 * 10 + (c - 48)) t ≡ r = cc f in
          digits c t r h same
      | inr h ↦ let f = rw h at e in absurd (cc f)
    ]
  where
    digits : (c : ℕ) (t : Text) (r : ℕ × Text) → is_digit c ≡ true → digits_at (0 * 10 + (c - 48)) t ≡ r
        → Front IsCount (c ∷ t) r
    digits c t r h same =
        using (digits_sound t (0 * 10 + (c - 48))) (λ (s, e, f, g). (
          c ∷ s,
          ap (λ u. c ∷ u) e ∙ ap (λ (q : ℕ × Text). c ∷ (s ++ q.1)) same,
          subst (λ n. IsCount (c ∷ s) n)
              (sym g ∙ ap (λ (q : ℕ × Text). q.0) same) (count c s (h, f)),
        ))

-- what a quantity makes of an atom
Changed : Text → Pattern → Text → Change × Text → Type 0
Changed a p t q = (s : Text) × (t ≡ s ++ q.1) × IsPiece (a ++ s) (q.0 p)

changed : (a : Text) (p : Pattern) (t s u : Text) (f : Change) (q : Change × Text) → t ≡ s ++ u
    → IsPiece (a ++ s) (f p) → (f, u) ≡ q → Changed a p t q
unfolding Changed
changed a p t s u f q e h same = (
  s,
  e ∙ ap (λ (r : Change × Text). s ++ r.1) same,
  subst (λ (r : Change × Text). IsPiece (a ++ s) (r.0 p))
      same h,
)

close_sound : (n m : ℕ) (t : Text) (q : Change × Text) → close_count_at n m t ≡ Some q → (u : Text)
    × (t ≡ 125 ∷ u) × ((repeat n (Some m), u) ≡ q)
close_sound n m [] q e = absurd cc
close_sound n m (c ∷ t) q e =
    elim (cases_Bool (c == 125)) [
      | inl h ↦ let f = rw h at e in let same : (repeat n (Some m), t) ≡ q = cc f in (t, head c 125 t h, same)
      | inr h ↦ let f = rw h at e in absurd (cc f)
    ]

module _ (a : Text) (p : Pattern) (atom : IsAtom a p) where
  comma_sound : (n : ℕ) (s : Text) → IsCount s n → (t : Text) (q : Change × Text)
      → after_comma_at n t ≡ Some q → Changed a p (123 ∷ (s ++ (44 ∷ t))) q
  comma_sound n s k [] q e = absurd cc
  comma_sound n s k (c ∷ t) q e =
      elim (cases_Bool (c == 125)) [
        | inl h ↦
            let f = rw h at e in
            let same : (repeat n None, t) ≡ q = cc f in
            changed a p (123 ∷ (s ++ (44 ∷ c ∷ t))) (123 ∷ (s ++ (44 ∷ 125 ∷ []))) t (repeat n None) q
            (ap (λ u. 123 ∷ (s ++ (44 ∷ u))) (head c 125 t h)
            ∙ ap (λ u. 123 ∷ u) (sym (append_assoc s (44 ∷ 125 ∷ []) t))) (repeated atom (at_least k)) same
        | inr h ↦
            using (then_some (λ (r : ℕ × Text). close_count_at n r.0 r.1) (count_at (c ∷ t)) q (rw h at e))
            (λ (r, f, g).
            using (count_sound (c ∷ t) r f) (λ (v, l, m).
            using (close_sound n r.0 r.1 q g) (λ (u, i, same).
            let cut : c ∷ t ≡ (v ++ (125 ∷ [])) ++ u = l ∙ ap (λ w. v ++ w) i
            ∙ sym (append_assoc v (125 ∷ []) u) in
            changed a p (123 ∷ (s ++ (44 ∷ c ∷ t))) (123 ∷ (s ++ (44 ∷ (v ++ (125 ∷ []))))) u
            (repeat n (Some r.0)) q
            (ap (λ w. 123 ∷ (s ++ (44 ∷ w))) cut
            ∙ ap (λ w. 123 ∷ w) (sym (append_assoc s (44 ∷ (v ++ (125 ∷ []))) u)))
            (repeated atom (between k m)) same)))
      ]

  least_sound : (n : ℕ) (s : Text) → IsCount s n → (t : Text) (q : Change × Text)
      → after_least_at n t ≡ Some q → Changed a p (123 ∷ (s ++ t)) q
  least_sound n s k [] q e = absurd cc
  least_sound n s k (c ∷ t) q e =
      elim (cases_Bool (c == 125)) [
        | inl h ↦
            let f = rw h at e in
            let same : (repeat n (Some n), t) ≡ q = cc f in
            changed a p (123 ∷ (s ++ (c ∷ t))) (123 ∷ (s ++ (125 ∷ []))) t (repeat n (Some n)) q
            (ap (λ u. 123 ∷ (s ++ u)) (head c 125 t h)
            ∙ ap (λ u. 123 ∷ u) (sym (append_assoc s (125 ∷ []) t))) (repeated atom (exactly k)) same
        | inr h ↦ let f = rw h at e in elim (cases_Bool (c == 44)) [
          | inl i ↦ let P : Text → Type 0 = λ u. Changed a p (123 ∷ (s ++ u)) q in subst P
              (sym (head c 44 t i)) (comma_sound n s k t q (rw i at f))
          | inr i ↦ let g = rw i at f in absurd (cc g)
        ]
      ]

  quantity_sound : (t : Text) (q : Change × Text) → quantity_at t ≡ Some q → Changed a p t q
  quantity_sound [] q e =
      let same : ((λ x. x), []) ≡ q = cc in
      changed a p [] [] [] (λ x. x) q refl (subst (λ u. IsPiece u p) (sym (append-nil a)) (once atom)) same
  quantity_sound (c ∷ t) q e =
      elim (cases_Bool (c == 42)) [
        | inl h ↦ let f = rw h at e in let same : (repeat 0 None, t) ≡ q =
            cc f in changed a p (c ∷ t) (42 ∷ []) t (repeat 0 None) q (head c 42 t h)
            (repeated atom star) same
        | inr h ↦ let f = rw h at e in elim (cases_Bool (c == 63)) [
          | inl i ↦ let g = rw i at f in let same : (repeat 0 (Some 1), t) ≡ q =
              cc g in changed a p (c ∷ t) (63 ∷ []) t (repeat 0 (Some 1)) q (head c 63 t i)
              (repeated atom question) same
          | inr i ↦ let g = rw i at f in elim (cases_Bool (c == 43)) [
            | inl j ↦ let k = rw j at g in let same : (plus, t) ≡ q = cc k in changed a p (c ∷ t) (43 ∷ []) t
                plus q (head c 43 t j) (once_or_more atom) same
            | inr j ↦ let k = rw j at g in elim (cases_Bool (c == 123)) [
              | inl l ↦
                  using (then_some (λ (r : ℕ × Text). after_least_at r.0 r.1) (count_at t) q (rw l at k))
                  (λ (r, m, o).
                  using (count_sound t r m) (λ (s, v, w).
                  let P : Text → Type 0 = λ u. Changed a p u q in
                  subst P (sym (head c 123 t l ∙ ap (λ u. 123 ∷ u) v)) (least_sound r.0 s w r.1 q o)))
              | inr l ↦
                  let m = rw l at k in
                  let same : ((λ x. x), c ∷ t) ≡ q = cc m in
                  changed a p (c ∷ t) [] (c ∷ t) (λ x. x) q refl
                  (subst (λ u. IsPiece u p) (sym (append-nil a)) (once atom)) same
            ]
          ]
        ]
      ]

-- ---- patterns

-- what is read inside is spelled
IsSound : Parse Pattern → Type 0
IsSound inner = (t : Text) (r : Pattern × Text) → inner t ≡ Some r → Front IsPattern t r

closing_sound : (p : Pattern) (t : Text) (r : Pattern × Text) → close_group_at p t ≡ Some r → (u : Text)
    × (t ≡ 41 ∷ u) × ((group p, u) ≡ r)
closing_sound p [] r e = absurd cc
closing_sound p (c ∷ t) r e =
    elim (cases_Bool (c == 41)) [
      | inl h ↦ let f = rw h at e in let same : (group p, t) ≡ r = cc f in (t, head c 41 t h, same)
      | inr h ↦ let f = rw h at e in absurd (cc f)
    ]

atom_sound : (inner : Parse Pattern) → IsSound inner → (t : Text) (r : Pattern × Text)
    → atom_at inner t ≡ Some r → Front IsAtom t r
unfolding IsSound
atom_sound inner sound [] r e = absurd cc
atom_sound inner sound (c ∷ t) r e =
    elim (cases_Bool (c == 40)) [
      | inl h ↦
          using (then_some (λ (q : Pattern × Text). close_group_at q.0 q.1) (inner t) r (rw h at e))
          (λ (a, f, g).
          using (sound t a f) (λ (s, k, l).
          using (closing_sound a.0 a.1 r g) (λ (u, m, same).
          let cut : t ≡ (s ++ (41 ∷ [])) ++ u = k ∙ ap (λ w. s ++ w) m ∙ sym (append_assoc s (41 ∷ []) u) in (
            40 ∷ (s ++ (41 ∷ [])),
            head c 40 t h ∙ ap (λ w. 40 ∷ w) cut
                ∙ ap (λ (q : Pattern × Text). (40 ∷ (s ++ (41 ∷ []))) ++ q.1) same,
            subst
                (λ (q : Pattern × Text). IsAtom (40 ∷ (s ++ (41 ∷ []))) q.0) same (parentheses l),
          ))))
      | inr h ↦
          using (map_some (λ (q : CharSet × Text). (letter q.0, q.1)) (set_at (c ∷ t)) r (rw h at e))
          (λ (a, f, g).
          using (set_sound (c ∷ t) a f) (λ (s, k, l). (
            s,
            k ∙ ap (λ (q : Pattern × Text). s ++ q.1) g,
            subst (λ (q : Pattern × Text). IsAtom s q.0) g
                (character l),
          )))
    ]

piece_sound : (inner : Parse Pattern) → IsSound inner → (t : Text) (r : Pattern × Text)
    → piece_at inner t ≡ Some r → Front IsPiece t r
unfolding Changed
piece_sound inner sound t r e =
    using (then_some with_quantity (atom_at inner t) r e) (λ (a, f, g).
    using (atom_sound inner sound t a f) (λ (s, k, l).
    using (map_some (λ (q : Change × Text). (q.0 a.0, q.1)) (quantity_at a.1) r g) (λ (q, m, o).
    using (quantity_sound s a.0 l a.1 q m) (λ (u, v, w). (
      s ++ u,
      k ∙ ap (λ x. s ++ x) v ∙ sym (append_assoc s u q.1)
          ∙ ap (λ (x : Pattern × Text). (s ++ u) ++ x.1) o,
      subst (λ (x : Pattern × Text). IsPiece (s ++ u) x.0) o
          w,
    )))))

prepend_sound : {s t : Text} {p q : Pattern} → IsPiece s p → IsPattern t q → IsPattern (s ++ t) (prepend p q)
prepend_sound h (last_branch no_piece) = last_branch (first_piece h no_piece)
prepend_sound h (last_branch (first_piece k l)) = last_branch (first_piece h (first_piece k l))
prepend_sound {s = s} {p = p} h (first_branch {s = u} {t = v} {p = b} {q = q} k l) =
    let P : Text → Type 0 = λ w. IsPattern w (either (seq p b) q) in
    subst P (append_assoc s u (124 ∷ v)) (first_branch (first_piece h k) l)

pattern_sound : (n : ℕ) (t : Text) (r : Pattern × Text) → pattern_at n t ≡ Some r → Front IsPattern t r
unfolding IsSound
pattern_sound zero t r e = absurd cc
pattern_sound (suc n) [] r e =
    let same : (empty, []) ≡ r = cc in (
      [],
      ap (λ (q : Pattern × Text). q.1) same,
      subst (λ (q : Pattern × Text). IsPattern [] q.0) same
          (last_branch no_piece),
    )
pattern_sound (suc n) (c ∷ t) r e =
    elim (cases_Bool (c == 41)) [
      | inl h ↦
          let f = rw h at e in
          let same : (empty, c ∷ t) ≡ r = cc f in (
            [],
            ap (λ (q : Pattern × Text). q.1) same,
            subst (λ (q : Pattern × Text). IsPattern [] q.0) same
                (last_branch no_piece),
          )
      | inr h ↦ let f = rw h at e in elim (cases_Bool (c == 124)) [
        | inl i ↦
            using (map_some (λ (q : Pattern × Text). (either empty q.0, q.1)) (pattern_at n t) r (rw i at f))
            (λ (a, k, same).
            using (pattern_sound n t a k) (λ (s, l, m). (
              124 ∷ s,
              head c 124 t i ∙ ap (λ u. 124 ∷ u) l ∙ ap (λ (q : Pattern × Text). (124 ∷ s) ++ q.1)
                  same,
              subst (λ (q : Pattern × Text). IsPattern (124 ∷ s) q.0) same (first_branch no_piece m),
            )))
        | inr i ↦
            using (then_some (with_piece (pattern_at n)) (piece_at (pattern_at n) (c ∷ t)) r (rw i at f))
            (λ (a, k, g).
            using (map_some (λ (q : Pattern × Text). (prepend a.0 q.0, q.1)) (pattern_at n a.1) r g)
            (λ (b, l, same).
            using (piece_sound (pattern_at n) (λ u q x. pattern_sound n u q x) (c ∷ t) a k) (λ (s, m, o).
            using (pattern_sound n a.1 b l) (λ (u, v, w). (
              s ++ u,
              m ∙ ap (λ x. s ++ x) v ∙ sym (append_assoc s u b.1)
                  ∙ ap (λ (q : Pattern × Text). (s ++ u) ++ q.1) same,
              subst
                  (λ (q : Pattern × Text). IsPattern (s ++ u) q.0) same (prepend_sound o w),
            )))))
      ]
    ]

whole_is : (a : Pattern × Text) (p : Pattern) → if_whole a ≡ Some p → (a.0 ≡ p) × (a.1 ≡ [])
whole_is (q, []) p e = (cc, refl)
whole_is (q, c ∷ t) p e = absurd cc

-- what is read is what the grammar spells
pub read_sound : (t : Text) (p : Pattern) → read t ≡ Some p → Shapes t p
read_sound t p e =
    using (then_some if_whole (pattern_at (suc (length t)) t) p e) (λ (a, f, g).
    using (pattern_sound (suc (length t)) t a f) (λ (s, k, l).
    using (whole_is a p g) (λ (m, o).
    let all : t ≡ s = k ∙ ap (λ u. s ++ u) o ∙ append-nil s in
    subst (λ u. IsPattern u p) (sym all) (subst (λ q. IsPattern s q) m l))))

-- the reader tells whether a text is spelled
by_reading : (t : Text) (r : Option Pattern) → read t ≡ r → ((p : Pattern) × Shapes t p)
    ⊎ ((p : Pattern) → Shapes t p → ⊥)
by_reading t (Some p) e = inl (p, read_sound t p e)
by_reading t None e = inr (λ p h. let f = read_whole t p h in absurd (cc (e, f)))

pub decided : (t : Text) → ((p : Pattern) × Shapes t p) ⊎ ((p : Pattern) → Shapes t p → ⊥)
decided t = by_reading t (read t) refl
