-- Reading a text character by character.
use Rattle.std.proofs.Common.{◌≡◌, ℕ, ◌<◌, ◌⊎◌, ◌↔◌, true, false, IsTrue, List, [], ◌∷◌, ◌++◌, Some, None}
use Rattle.std.proofs.Common.{refl, sym, ap, ◌∙◌, subst, inl, inr, ⊎_elim, arith, true≢false, append_assoc}
use Rattle.std.proofs.Common.{append-nil, slice_index_or}
use Rattle.std.specs.Iterator.{AlwaysYields}
use Rattle.std.specs.Str.{chars, IsUtf8}
use Rattle.std.specs.Str.Iter.{chars_rest}
use Rattle.std.proofs.iter.TextItems.{spells}
use Rattle.std.proofs.lemmas.Iterator.{YieldsList-from_chars}
use Rattle.std.specs.declared.str.Chars.{Chars}
use Rattle.jp_pattern.specs.Pattern.{Text, Pattern}
use Rattle.jp_pattern.specs.Language.{HasPart, Member}
use Rattle.jp_pattern.specs.Profile.{HasCounts}
use Rattle.jp_pattern.specs.Unrolled.{unrolled, PositionHas, SomePositionHas}
use Rattle.jp_automaton.specs.inner.Simulation.{step, is_elem}
use Rattle.jp_automaton.proofs.TermLemmas.{takes_step}

-- ---- the characters of a text

-- these were read of the text, and the iterator gives the others
pub record IsReading (text read : Text) (it : Chars) : Type 0 where
  pub rest : Text
  pub splits : text ≡ read ++ rest
  pub yields : AlwaysYields spells (λ c. c) it rest

pub reading_first : (bytes : List ℕ) (it : Chars) → IsUtf8 bytes → chars_rest it ≡ bytes
    → IsReading (chars bytes) [] it
reading_first bytes it utf8 e = record {
  rest = chars bytes;
  splits = refl;
  yields =
      (YieldsList-from_chars bytes utf8 e).runs;
}

module _ (text read : Text) (it next : Chars) (reading : IsReading text read it) where
  pub reading_more : (c : ℕ) → spells it (Some c) next → IsReading text (read ++ c ∷ []) next
  reading_more c stepped = by reading.rest reading.splits reading.yields where
    by : (rest : Text) → text ≡ read ++ rest → AlwaysYields spells (λ d. d) it rest
        → IsReading text (read ++ c ∷ []) next
    by [] e y = absurd (y c next stepped)
    by (d ∷ rest) e y =
        let g = y.1 c next stepped in
        record {
          rest = rest;
          splits = e ∙ ap (λ k. read ++ k ∷ rest) (sym g.0) ∙ sym (append_assoc read (c ∷ []) rest);
          yields = g.1;
        }

  pub reading_end : spells it None next → text ≡ read
  reading_end stepped = by reading.rest reading.splits reading.yields where
    by : (rest : Text) → text ≡ read ++ rest → AlwaysYields spells (λ d. d) it rest → text ≡ read
    by [] e y = e ∙ append-nil read
    by (d ∷ rest) e y = absurd (y.0 next stepped)

-- ---- what is left

pub all_left : (p : Pattern) (u : Text) → SomePositionHas p (0 ∷ []) u ↔ Member p u
all_left p u = (λ (k, (i, lt, e), m). first k i lt e m, λ m. (0, (0, omega arith, refl), m)) where
  first : (k i : ℕ) → i < 1 → slice_index_or (0 ∷ []) i k ≡ k → PositionHas p k u → Member p u
  first k i lt e m =
      let z : i ≡ 0 = omega arith in
      let f : 0 ≡ k = subst (λ n. slice_index_or (0 ∷ []) n k ≡ k) z e in
      subst (λ n. PositionHas p n u) (sym f) m

pub none_left : (p : Pattern) (u : Text) → SomePositionHas p [] u → ⊥
none_left p u (k, (i, lt, e), m) = omega arith

module _ (p : Pattern) (L N Q : Text → Type 0) (read : Text) (c : ℕ) where
  -- one character more of the whole text
  pub match_more : ((u : Text) → L u ↔ Member p (read ++ u))
      → ((t : Text) → N t ↔ (L (c ∷ t) ⊎ (IsTrue false × Q t))) →
      (u : Text) → N u ↔ Member p ((read ++ c ∷ []) ++ u)
  match_more kept stepped u =
      let e : (read ++ c ∷ []) ++ u ≡ read ++ (c ∷ u) = append_assoc read (c ∷ []) u in (
        λ h. subst (Member p) (sym e) (⊎_elim (λ g. (kept (c ∷ u)).0 g) (λ g. absurd (true≢false (sym g.0)))
            ((stepped u).0 h)),
        λ m. (stepped u).1 (inl ((kept (c ∷ u)).1 (subst (Member p) e m))),
      )

-- ---- a part of the text

-- a text of the pattern began somewhere in what was read, and u completes it
abbrev pub BeganIn : Pattern → Text → Text → Type 0
BeganIn p read u = (before : Text) × (part : Text) × (read ≡ before ++ part) × Member p (part ++ u)

-- no text of the pattern ended before the end of what was read
abbrev pub NoPartIn : Pattern → Text → Type 0
NoPartIn p read = (front : Text) (c : ℕ) (rest : Text) → read ≡ front ++ (c ∷ rest) → BeganIn p front [] → ⊥

both_empty : (xs ys : Text) → [] ≡ xs ++ ys → ys ≡ []
both_empty [] ys e = sym e
both_empty (x ∷ xs) ys e = absurd cc

-- where a text that ends with c is cut
last_cut : (c : ℕ) (before read part : Text) → read ++ c ∷ [] ≡ before ++ part →
    (part ≡ []) ⊎ ((q : Text) × (part ≡ q ++ c ∷ []) × (read ≡ before ++ q))
last_cut c [] read part e = inr (read, sym e, refl)
last_cut c (x ∷ before) [] part e =
    let f : [] ≡ before ++ part = cc in
    inl (both_empty before part f)
last_cut c (x ∷ before) (y ∷ read) part e =
    let head : y ≡ x = cc in
    let tail : read ++ c ∷ [] ≡ before ++ part = cc in
    ⊎_elim
    (λ h. inl h)
    (λ (q, f, g). inr (q, f, ap (λ k. k ∷ read) head ∙ ap (λ r. x ∷ r) g))
    (last_cut c before read part tail)

module _ (p : Pattern) where
  pub began_first : (u : Text) → Member p u ↔ BeganIn p [] u
  began_first u = (
    λ m. ([], [], refl, m),
    λ (before, part, e, m). subst (λ q. Member p (q ++ u)) (both_empty before part e) m,
  )

  pub no_part_first : NoPartIn p []
  no_part_first [] c rest e h = cc
  no_part_first (x ∷ front) c rest e h = cc

  module _ (read : Text) (c : ℕ) where
    began_more : (u : Text) → BeganIn p read (c ∷ u) ⊎ Member p u → BeganIn p (read ++ c ∷ []) u
    began_more u (inl (before, part, e, m)) = (
      before,
      part ++ c ∷ [],
      ap (λ r. r ++ c ∷ []) e ∙ append_assoc before part (c ∷ []),
      subst (Member p) (sym (append_assoc part (c ∷ []) u)) m,
    )
    began_more u (inr m) = (read ++ c ∷ [], [], sym (append-nil (read ++ c ∷ [])), m)

    more_began : (u : Text) → BeganIn p (read ++ c ∷ []) u → BeganIn p read (c ∷ u) ⊎ Member p u
    more_began u (before, part, e, m) =
        ⊎_elim
        (λ f. inr (subst (λ q. Member p (q ++ u)) f m))
        (λ (q, f, g). inl (before, q, g, subst (Member p) (ap (λ r. r ++ u) f ∙ append_assoc q (c ∷ []) u) m))
        (last_cut c before read part e)

    pub find_more : (L N : Text → Type 0) → ((u : Text) → L u ↔ BeganIn p read u) →
        ((t : Text) → N t ↔ (L (c ∷ t) ⊎ (IsTrue true × Member p t))) → (u : Text)
        → N u ↔ BeganIn p (read ++ c ∷ []) u
    find_more L N kept stepped u = (
      λ h. began_more u (⊎_elim (λ g. inl ((kept (c ∷ u)).0 g)) (λ g. inr g.1) ((stepped u).0 h)),
      λ h. (stepped u).1 (⊎_elim (λ g. inl ((kept (c ∷ u)).1 g)) (λ g. inr (refl, g)) (more_began u h)),
    )

    pub no_part_more : NoPartIn p read → (BeganIn p read [] → ⊥) → NoPartIn p (read ++ c ∷ [])
    no_part_more kept none front d rest e h =
        ⊎_elim
        (λ f. absurd cc)
        (λ (q, f, g). by q g)
        (last_cut c front read (d ∷ rest) e)
      where
        by : (q : Text) → read ≡ front ++ q → ⊥
        by [] g = none (subst (λ r. BeganIn p r []) (sym (g ∙ append-nil front)) h)
        by (k ∷ q) g = kept front k q g h

  pub began_found : (text read rest : Text) → text ≡ read ++ rest → BeganIn p read [] → HasPart p text
  began_found text read rest e (before, part, f, m) = (
    before,
    part,
    rest,
    e ∙ ap (λ r. r ++ rest) f ∙ append_assoc before part rest,
    subst (Member p)
        (append-nil part) m,
  )

  pub found_began : (text read : Text) → text ≡ read → NoPartIn p read → HasPart p text → BeganIn p read []
  found_began text read e none (before, part, [], f, m) = (
    before,
    part,
    sym e ∙ f ∙ ap (λ r. before ++ r) (append-nil part),
    subst (Member p)
        (sym (append-nil part)) m,
  )
  found_began text read e none (before, part, c ∷ after, f, m) =
      absurd (none (before ++ part) c after (sym e ∙ f ∙ sym (append_assoc before part (c ∷ after)))
      (before, part, refl, subst (Member p) (sym (append-nil part)) m))

-- ---- characters with which nothing begins, while nothing but the start is active

pub first_left : (p q : Pattern) (positions : List ℕ) → q ≡ p → positions ≡ 0 ∷ [] → Member p []
    → SomePositionHas q positions []
first_left p q positions same at m =
    subst (λ r. SomePositionHas r positions []) (sym same) (subst (λ ps. SomePositionHas p ps []) (sym at)
    ((all_left p []).1 m))

module _ (p q : Pattern) (positions : List ℕ) (read : Text) (same : q ≡ p) (at : positions ≡ 0 ∷ [])
    (kept : (u : Text) → SomePositionHas q positions u ↔ BeganIn p read u) where
  at_first : (u : Text) → SomePositionHas p (0 ∷ []) u ↔ BeganIn p read u
  at_first =
      subst (λ ps. (u : Text) → SomePositionHas p ps u ↔ BeganIn p read u) at
      (subst (λ r. (u : Text) → SomePositionHas r positions u ↔ BeganIn p read u) same kept)

  pub not_at_first : (Member p [] → ⊥) → BeganIn p read [] → ⊥
  not_at_first none h = none ((all_left p []).0 ((at_first []).1 h))

pub skip_left : (p : Pattern) (counts : HasCounts p) (read : Text) (c : ℕ) (q : Pattern) (positions : List ℕ)
    → q ≡ p → positions ≡ 0 ∷ [] →
    step (is_elem []) c (unrolled p) 0 true ≡ []
    → ((u : Text) → SomePositionHas q positions u ↔ BeganIn p read u) →
    (u : Text) → SomePositionHas q positions u ↔ BeganIn p (read ++ c ∷ []) u
skip_left p counts read c q positions same at none kept =
    let first = subst (λ ps. (u : Text) → SomePositionHas p ps u ↔ BeganIn p read u) at
    (subst (λ r. (u : Text) → SomePositionHas r positions u ↔ BeganIn p read u) same kept) in
    let L : Text → Type 0 = λ u. SomePositionHas p (0 ∷ []) u in
    let more = find_more p read c L L first (takes_step p counts true [] tt c true [] (sym none)) in
    subst (λ r. (u : Text) → SomePositionHas r positions u ↔ BeganIn p (read ++ c ∷ []) u) (sym same)
    (subst (λ ps. (u : Text) → SomePositionHas p ps u ↔ BeganIn p (read ++ c ∷ []) u) (sym at) more)
