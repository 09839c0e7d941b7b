-- The turns of the loops that read.
use Rattle.std.proofs.Common.{◌≡◌, ℕ, suc, ◌+◌, ◌-◌, ◌<◌, ◌≤◌, Bool, true, false, ◌==◌, List, [], ◌∷◌, ◌++◌}
use Rattle.std.proofs.Common.{Option, Some, None, refl, sym, ap, ◌∙◌, subst, inl, inr, arith, append_assoc}
use Rattle.std.proofs.Common.{append-nil}
use Rattle.std.specs.Prelude.{option_map, option_and_then}
use Rattle.std.proofs.lemmas.Bool.{cases_Bool}
use Rattle.jp_pattern.specs.Pattern.{Text, Element, Pattern, one, empty, either}
use Rattle.jp_pattern.specs.Tree.{in_turn, before_last}
use Rattle.jp_pattern.specs.inner.Gives.{Fails}
use Rattle.jp_pattern.specs.declared.fault.PatternFault.{PatternFault}
use Rattle.jp_pattern.specs.declared.fault.PatternFault.TheVariants as faults
use Rattle.jp_pattern.specs.inner.Reading.{Parse, close_at, element_at, with_element, elements_at}
use Rattle.jp_pattern.specs.inner.Reading.{elements_behind}
use Rattle.jp_pattern.specs.inner.Reading.{next_element_at, prepend, NextPart, end, bar, piece, next_part}
use Rattle.jp_pattern.specs.inner.Reading.{after_part}
use Rattle.jp_pattern.specs.inner.Reading.{pattern_within, behind_pieces, pattern_behind}

pub fails_map : {A B : Type 0} (f : A → B) (e : PatternFault) (o : Option A) → Fails e o
    → Fails e (option_map f o)
fails_map f faults.Memory o h = tt
fails_map f faults.NoPattern o h = ap (option_map f) h

-- ---- elements

goes_on : ℕ → Option Element × Bool × Text → Option (List Element × Text)
goes_on n (None, b, t) = Some ([], t)
goes_on n (Some x, false, t) = Some (x ∷ [], t)
goes_on n (Some x, true, t) = option_map (λ q. (x ∷ q.0, q.1)) (elements_at n t)

closing : (n : ℕ) (t : Text)
    → close_at t ≡ option_and_then (goes_on n) (option_map (λ q. (Some (one 45), false, q.1)) (close_at t))
unfolding goes_on
closing n [] = refl
closing n (d ∷ t) = elim (cases_Bool (d == 93)) [ inl h ↦ rw h refl | inr h ↦ rw h refl ]

adding : (n : ℕ) (o : Option (Element × Text)) → option_and_then (with_element (elements_at n)) o
    ≡ option_and_then (goes_on n) (option_map (λ r. (Some r.0, true, r.1)) o)
unfolding goes_on
adding n None = refl
adding n (Some r) = refl

element_turn : (n : ℕ) (t : Text) → elements_at (suc n) t ≡ option_and_then (goes_on n) (next_element_at t)
unfolding goes_on
element_turn n [] = refl
element_turn n (c ∷ t) =
    elim (cases_Bool (c == 93)) [
      | inl h ↦ rw h refl
      | inr h ↦ elim (cases_Bool (c == 45)) [
        | inl i ↦ rw (h, i) (closing n t)
        | inr i ↦ rw (h, i) (adding n (element_at (c ∷ t)))
      ]
    ]

one_less : (turns i : ℕ) → i < turns → turns - i ≡ suc (turns - (i + 1))
one_less turns i lt = omega arith

module _ (whole : Option (List Element × Text)) (found : List Element) (turns i : ℕ) (t : Text)
    (lt : i < turns) (kept : whole ≡ elements_behind found (turns - i) t) where
  put : List Element × Text → List Element × Text
  put q = (found ++ q.0, q.1)

  element_next : whole ≡ option_map put (option_and_then (goes_on (turns - (i + 1))) (next_element_at t))
  unfolding put
  element_next =
      let P : ℕ → Type 0 = λ n. whole ≡ elements_behind found n t in
      let kept2 : whole ≡ elements_behind found (suc (turns - (i + 1))) t =
      subst P (one_less turns i lt) kept in
      kept2 ∙ ap (option_map (λ (q : List Element × Text). (found ++ q.0, q.1)))
      (element_turn (turns - (i + 1)) t)

  pub element_fails : (e : PatternFault) → Fails e (next_element_at t) → Fails e whole
  element_fails faults.Memory h = tt
  element_fails faults.NoPattern h = element_next
      ∙ ap (λ o. option_map put (option_and_then (goes_on (turns - (i + 1))) o)) h

  pub element_ends : (b : Bool) (u : Text) → next_element_at t ≡ Some (None, b, u) → whole ≡ Some (found, u)
  unfolding put goes_on
  element_ends b u h =
      element_next ∙ ap (λ o. option_map put (option_and_then (goes_on (turns - (i + 1))) o)) h
      ∙ ap (λ xs. Some (xs, u)) (append-nil found)

  pub element_last : (x : Element) (u : Text) → next_element_at t ≡ Some (Some x, false, u)
      → whole ≡ Some (found ++ (x ∷ []), u)
  unfolding put goes_on
  element_last x u h = element_next ∙ ap (λ o. option_map put (option_and_then (goes_on (turns - (i + 1))) o))
      h

  again : (x : Element) (o : Option (List Element × Text)) →
      option_map put (option_map (λ q. (x ∷ q.0, q.1)) o)
      ≡ option_map (λ q. ((found ++ (x ∷ [])) ++ q.0, q.1)) o
  unfolding put
  again x None = refl
  again x (Some q) = ap (λ xs. Some (xs, q.1)) (sym (append_assoc found (x ∷ []) q.0))

  pub element_more : (x : Element) (u : Text) → next_element_at t ≡ Some (Some x, true, u)
      → whole ≡ elements_behind (found ++ (x ∷ [])) (turns - (i + 1)) u
  unfolding goes_on
  element_more x u h =
      element_next ∙ ap (λ o. option_map put (option_and_then (goes_on (turns - (i + 1))) o)) h
      ∙ again x (elements_at (turns - (i + 1)) u)

-- ---- pieces and branches

pieces_end : (ps : List Pattern) → behind_pieces ps empty ≡ in_turn ps
pieces_end [] = refl
pieces_end (p ∷ []) = refl
pieces_end (p ∷ q ∷ ps) = ap (prepend p) (pieces_end (q ∷ ps))

pieces_bar : (ps : List Pattern) (r : Pattern) → behind_pieces ps (either empty r) ≡ either (in_turn ps) r
pieces_bar [] r = refl
pieces_bar (p ∷ ps) r = ap (prepend p) (pieces_bar ps r)

pieces_more : (ps : List Pattern) (p r : Pattern) → behind_pieces (ps ++ (p ∷ [])) r
    ≡ behind_pieces ps (prepend p r)
pieces_more [] p r = refl
pieces_more (q ∷ ps) p r = ap (prepend q) (pieces_more ps p r)

branches_more : (bs : List Pattern) (b q : Pattern) → before_last (bs ++ (b ∷ [])) q
    ≡ before_last bs (either b q)
branches_more [] b q = refl
branches_more (c ∷ bs) b q = ap (either c) (branches_more bs b q)

module _ (whole : Option (Pattern × Text)) (bs ps : List Pattern) (left turns i : ℕ) (t : Text)
    (lt : i < turns) (kept : whole ≡ pattern_behind bs ps (pattern_within left (turns - i) t)) where
  following : ℕ
  following = turns - (i + 1)

  turn : Parse NextPart
  turn = next_part (λ l. pattern_within l following) left

  pattern_next : whole ≡ pattern_behind bs ps (option_and_then (after_part (pattern_within left following))
      (turn t))
  unfolding following turn pattern_within
  pattern_next =
      let P : ℕ → Type 0 = λ n. whole ≡ pattern_behind bs ps (pattern_within left n t) in
      subst P (one_less turns i lt) kept

  same_turns : turns - i - 1 ≡ turns - (i + 1)
  same_turns = omega arith

  next_is : (o : Option (NextPart × Text)) → next_part (λ l. pattern_within l (turns - i - 1)) left t ≡ o
      → turn t ≡ o
  unfolding following turn
  next_is o h = let P : ℕ → Type 0 = λ n. next_part (λ l. pattern_within l n) left t ≡ o in subst P same_turns
      h

  pub pattern_fails : (e : PatternFault) → Fails e (next_part (λ l. pattern_within l (turns - i - 1)) left t)
      → Fails e whole
  pattern_fails faults.Memory h = tt
  pattern_fails faults.NoPattern h = pattern_next
      ∙ ap (λ o. pattern_behind bs ps (option_and_then (after_part (pattern_within left following)) o))
      (next_is None h)

  pub pattern_ends : (u : Text) → next_part (λ l. pattern_within l (turns - i - 1)) left t ≡ Some (end, u)
      → whole ≡ Some (before_last bs (in_turn ps), u)
  pattern_ends u h =
      pattern_next ∙ ap (λ o. pattern_behind bs ps
      (option_and_then (after_part (pattern_within left following)) o)) (next_is (Some (end, u)) h)
      ∙ ap (λ p. Some (before_last bs p, u)) (pieces_end ps)

  barred : (o : Option (Pattern × Text)) → pattern_behind bs ps (option_map (λ r. (either empty r.0, r.1)) o)
      ≡ pattern_behind (bs ++ (in_turn ps ∷ [])) [] o
  barred None = refl
  barred (Some r) = ap (λ p. Some (before_last bs p, r.1)) (pieces_bar ps r.0)
      ∙ ap (λ p. Some (p, r.1)) (sym (branches_more bs (in_turn ps) r.0))

  pub pattern_bar : (u : Text) → next_part (λ l. pattern_within l (turns - i - 1)) left t ≡ Some (bar, u) →
      whole ≡ pattern_behind (bs ++ (in_turn ps ∷ [])) [] (pattern_within left (turns - (i + 1)) u)
  unfolding following
  pattern_bar u h =
      pattern_next ∙ ap (λ o. pattern_behind bs ps
      (option_and_then (after_part (pattern_within left following)) o)) (next_is (Some (bar, u)) h)
      ∙ barred (pattern_within left (turns - (i + 1)) u)

  pieced : (p : Pattern) (o : Option (Pattern × Text))
      → pattern_behind bs ps (option_map (λ r. (prepend p r.0, r.1)) o) ≡ pattern_behind bs (ps ++ (p ∷ [])) o
  pieced p None = refl
  pieced p (Some r) = ap (λ q. Some (before_last bs q, r.1)) (sym (pieces_more ps p r.0))

  pub pattern_piece : (p : Pattern) (u : Text) → next_part (λ l. pattern_within l (turns - i - 1)) left t
      ≡ Some (piece p, u) →
      whole ≡ pattern_behind bs (ps ++ (p ∷ [])) (pattern_within left (turns - (i + 1)) u)
  unfolding following
  pattern_piece p u h =
      pattern_next ∙ ap (λ o. pattern_behind bs ps
      (option_and_then (after_part (pattern_within left following)) o)) (next_is (Some (piece p, u)) h)
      ∙ pieced p (pattern_within left (turns - (i + 1)) u)

pub pattern_over : (whole : Option (Pattern × Text)) (bs ps : List Pattern) (left turns i : ℕ) (t : Text)
    → turns ≤ i → whole ≡ pattern_behind bs ps (pattern_within left (turns - i) t) → whole ≡ None
unfolding pattern_within
pattern_over whole bs ps left turns i t le kept =
    let none : turns - i ≡ 0 = omega arith in
    let P : ℕ → Type 0 = λ n. whole ≡ pattern_behind bs ps (pattern_within left n t) in
    subst P none kept
