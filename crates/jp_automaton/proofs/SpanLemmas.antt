-- Ranges of characters that are found by halves.
use Rattle.std.proofs.Common.{◌≡◌, ℕ, zero, suc, ◌+◌, ◌-◌, ◌<◌, ◌≤◌, ◌⊎◌, Bool, true, false, ◌&&◌, ◌||◌}
use Rattle.std.proofs.Common.{List, [], ◌∷◌, ◌++◌, map, max, leb, length, get_or, drop, refl, sym, ap, ap₂}
use Rattle.std.proofs.Common.{◌∙◌, inl, inr, arith, true≢false, append_assoc, Vec, Global}
use Rattle.std.specs.List.{list_any}
use Rattle.std.specs.List.Sorted.{IsNonDecreasingBy, IsPartitionPoint}
use Rattle.std.proofs.lemmas.Bool.{and_parts, and_from, or_cases, or_left, or_right, leb-true, le-leb}
use Rattle.std.proofs.lemmas.Bool.{cases_lt}
use Rattle.std.proofs.lemmas.Bool.{cases_Bool, and_right, lt-leb, leb-false, false≢true}
use Rattle.std.proofs.Math.Bool.{or-true}
use Rattle.std.proofs.lemmas.List.Folds.{list_any_at, list_any-append}
use Rattle.std.proofs.lemmas.List.{get_or_default, map-append}
use Rattle.std.proofs.Math.Seq.{drop-cons}
use Rattle.jp_automaton.specs.Letters.{span_element}
use Rattle.jp_automaton.specs.inner.SpanOrder.{first_of, last_of}
use Rattle.jp_automaton.specs.inner.Spans.{widen, HasParts, SameSet}
use Rattle.jp_automaton.specs.declared.ranges.Span.{Span}
use Rattle.jp_pattern.specs.CharSets.{in_element, in_set, is_scalar, negated_if}
use Rattle.jp_pattern.specs.Pattern.{CharSet}
use Rattle.jp_pattern.specs.Tree.{element_of, set_of}
use Rattle.jp_pattern.specs.declared.tree.CharSet.{CharSet as HeldSet}
use Rattle.jp_pattern.specs.declared.tree.CharSet.TheVariants as held
use Rattle.jp_pattern.specs.declared.tree.Element.{Element as HeldElement}

-- the range has the character
abbrev pub in_span : ℕ → Span → Bool
in_span c s = in_element c (span_element s)

pub any_span : (c : ℕ) (ss : List Span) → list_any (in_element c) (map span_element ss)
    ≡ list_any (in_span c) ss
any_span c [] = refl
any_span c (s ∷ ss) = ap (λ b. in_span c s || b) (any_span c ss)

same_bools : (a b : Bool) → (a ≡ true → b ≡ true) → (b ≡ true → a ≡ true) → a ≡ b
same_bools true b f g = sym (f refl)
same_bools false true f g = g refl
same_bools false false f g = refl

-- ---- lists that rise by a number

abbrev Rising : (Span → ℕ) → ℕ → List Span → Type 0
Rising n low [] = Unit {0}
Rising n low (s ∷ ss) = (low ≤ n s) × Rising n (n s) ss

rising_at : (n : Span → ℕ) (low : ℕ) (ss : List Span) (k : ℕ) (d : Span) → Rising n low ss → k < length ss
    → low ≤ n (get_or ss k d)
rising_at n low [] k d r lt = absurd (omega arith)
rising_at n low (s ∷ ss) zero d r lt = r.0
rising_at n low (s ∷ ss) (suc k) d r lt =
    let h = rising_at n (n s) ss k d r.1 (omega arith) in omega (arith, h, r.0)

never_falls : (n : Span → ℕ) (low : ℕ) (ss : List Span) → Rising n low ss → IsNonDecreasingBy n ss
never_falls n low [] r i j d le lt = absurd (omega arith)
never_falls n low (s ∷ ss) r zero zero d le lt = omega arith
never_falls n low (s ∷ ss) r zero (suc j) d le lt = rising_at n (n s) ss j d r.1 (omega arith)
never_falls n low (s ∷ ss) r (suc i) zero d le lt = absurd (omega arith)
never_falls n low (s ∷ ss) r (suc i) (suc j) d le lt =
    never_falls n (n s) ss r.1 i j d (omega arith) (omega arith)

rising_from : (n : Span → ℕ) (low : ℕ) (ss : List Span) → IsNonDecreasingBy n ss
    → ((d : Span) → 0 < length ss → low ≤ n (get_or ss 0 d)) → Rising n low ss
rising_from n low [] h first = tt
rising_from n low (s ∷ ss) h first = (
  first s (omega arith),
  rising_from n (n s) ss (λ i j d le lt. h (suc i) (suc j) d (omega arith) (omega arith))
      (λ d lt. h 0 1 d (omega arith) (omega arith)),
)

-- ---- ranges that are widened

widen_firsts : (low most : ℕ) (ss : List Span) → Rising first_of low ss → Rising first_of low (widen most ss)
widen_firsts low most [] r = tt
widen_firsts low most (s ∷ ss) r = (r.0, widen_firsts s.low (max most s.high) ss r.1)

widen_lasts : (most : ℕ) (ss : List Span) → Rising last_of most (widen most ss)
widen_lasts most [] = tt
widen_lasts most (s ∷ ss) = (omega arith, widen_lasts (max most s.high) ss)

-- a range or one before it holds what the widened one holds
widened_holds : (s : Span) (ss : List Span) (low most c : ℕ) → low ≤ s.low → s.low ≤ c → c ≤ max most s.high
    → (list_any (in_span c) (s ∷ ss) ≡ true) ⊎ ((low ≤ c) × (c ≤ most) × (0 < c))
widened_holds s ss low most c above from to =
    elim (cases_lt s.high c) [
      | inl past ↦ inr (omega arith, omega arith, omega arith)
      | inr within ↦ inl (or_left (in_span c s) _
          (and_from _ _ (le-leb s.low c from) (le-leb c s.high within)))
    ]

widen_sound : (ss : List Span) (low most c : ℕ) → Rising first_of low ss
    → list_any (in_span c) (widen most ss) ≡ true
    → (list_any (in_span c) ss ≡ true) ⊎ ((low ≤ c) × (c ≤ most) × (0 < c))
widen_sound [] low most c r h = absurd (true≢false (sym h))
widen_sound (s ∷ ss) low most c r h =
    elim (or_cases (leb s.low c && leb c (max most s.high)) _ h) [
      | inl k ↦
          let both = and_parts (leb s.low c) (leb c (max most s.high)) k in
          widened_holds s ss low most c r.0 (leb-true s.low c both.0) (leb-true c (max most s.high) both.1)
      | inr k ↦ elim (widen_sound ss s.low (max most s.high) c r.1 k) [
        | inl found ↦ inl (or_right (in_span c s) _ found)
        | inr between ↦ widened_holds s ss low most c r.0 between.0 between.1
      ]
    ]

widen_whole : (ss : List Span) (most c : ℕ) → list_any (in_span c) ss ≡ true
    → list_any (in_span c) (widen most ss) ≡ true
widen_whole [] most c h = h
widen_whole (s ∷ ss) most c h =
    elim (or_cases (in_span c s) _ h) [
      | inl k ↦
          let both = and_parts (leb s.low c) (leb c s.high) k in
          let to = leb-true c s.high both.1 in
          let wide : c ≤ max most s.high = omega arith in
          or_left (leb s.low c && leb c (max most s.high)) _
          (and_from _ _ both.0 (le-leb c (max most s.high) wide))
      | inr k ↦ or_right (leb s.low c && leb c (max most s.high)) _
          (widen_whole ss (max most s.high) c k)
    ]

none_below : (low c : ℕ) (A : Type 0) → A ⊎ ((low ≤ c) × (c ≤ 0) × (0 < c)) → A
none_below low c A (inl a) = a
none_below low c A (inr h) = absurd (omega arith)

module _ (ss : List Span) (sorted : IsNonDecreasingBy first_of ss) where
  rises : Rising first_of 0 ss
  rises = rising_from first_of 0 ss sorted (λ d lt. omega arith)

  pub widened_firsts : IsNonDecreasingBy first_of (widen 0 ss)
  widened_firsts = never_falls first_of 0 (widen 0 ss) (widen_firsts 0 0 ss rises)

  pub widened_lasts : IsNonDecreasingBy last_of (widen 0 ss)
  widened_lasts = never_falls last_of 0 (widen 0 ss) (widen_lasts 0 ss)

  pub widened_same : (c : ℕ) → list_any (in_element c) (map span_element (widen 0 ss))
      ≡ list_any (in_element c) (map span_element ss)
  widened_same c = any_span c (widen 0 ss)
      ∙ same_bools _ _ (λ h. none_below 0 c _ (widen_sound ss 0 0 c rises h)) (widen_whole ss 0 c)
      ∙ sym (any_span c ss)

-- ---- which range has the character

none_any : (p : Span → Bool) (ss : List Span) (x : Span)
    → ((k : ℕ) → k < length ss → p (get_or ss k x) ≡ false) → list_any p ss ≡ false
none_any p [] x none = refl
none_any p (s ∷ ss) x none = ap₂ (λ a b. a || b) (none 0 (omega arith))
    (none_any p ss x (λ k lt. none (suc k) (omega arith)))

module _ (ss : List Span) (c i : ℕ)
    (point : IsPartitionPoint (λ y. leb (first_of y) c ≡ true) (λ y. leb (first_of y) c ≡ false) ss i) where
  begins_behind : (k : ℕ) (x : Span) → i ≤ k → k < length ss → in_span c (get_or ss k x) ≡ false
  begins_behind k x from lt = ap (λ b. b && leb c (last_of (get_or ss k x))) (point.1 k x from lt)

  pub found_none : i ≡ 0 → false ≡ list_any (in_element c) (map span_element ss)
  found_none e = sym (any_span c ss ∙ none_any (in_span c) ss (record { low = 0; high = 0 })
      (λ k lt. begins_behind k (record { low = 0; high = 0 }) (omega arith) lt))

  ends_before : IsNonDecreasingBy last_of ss → 0 < i → i ≤ length ss → (x : Span)
      → leb c (last_of (get_or ss (i - 1) x)) ≡ false → (k : ℕ) → k < length ss
      → in_span c (get_or ss k x) ≡ false
  ends_before lasts some within x past k lt =
      elim (cases_lt k i) [
        | inl before ↦
            let le = lasts k (i - 1) x (omega arith) (omega arith) in
            let over = leb-false c (last_of (get_or ss (i - 1) x)) past in
            and_right (leb (first_of (get_or ss k x)) c) (leb c (last_of (get_or ss k x)))
            (lt-leb c (last_of (get_or ss k x)) (omega arith))
        | inr from ↦ begins_behind k x from lt
      ]

  pub found_at : IsNonDecreasingBy last_of ss → 0 < i → i ≤ length ss → (x : Span)
      → leb c (last_of (get_or ss (i - 1) x)) ≡ list_any (in_element c) (map span_element ss)
  found_at lasts some within x =
      elim (cases_Bool (leb c (last_of (get_or ss (i - 1) x)))) [
        | inl reaches ↦ reaches ∙ sym (any_span c ss ∙ list_any_at (in_span c) ss (i - 1) x (omega arith)
            (and_from _ _ (point.0 (i - 1) x (omega arith) (omega arith)) reaches))
        | inr short ↦ short ∙ sym (any_span c ss ∙ none_any (in_span c) ss x
            (ends_before lasts some within x short))
      ]

-- ---- the loops

-- one range more is widened
pub widen_turn : (made wide ss whole : List Span) (i most next : ℕ) (d e : Span) → i < length ss
    → next ≡ max most (get_or ss i e).high
    → wide ≡ made ++ record { low = (get_or ss i d).low; high = next } ∷ []
    → made ++ widen most (drop i ss) ≡ whole → wide ++ widen next (drop (i + 1) ss) ≡ whole
widen_turn made wide ss whole i most next d e lt is pushed kept =
    let s = get_or ss i d in
    let rest = drop (i + 1) ss in
    let more : suc i ≡ i + 1 = omega arith in
    let here : drop i ss ≡ s ∷ rest = drop-cons ss i d lt ∙ ap (λ j. s ∷ drop j ss) more in
    let high : next ≡ max most s.high = is ∙ ap (λ x. max most x.high) (get_or_default ss i e d lt) in
    ap (λ w. w ++ widen next rest) pushed
    ∙ append_assoc made (record { low = s.low; high = next } ∷ []) (widen next rest)
    ∙ ap (λ n. made ++ (record { low = s.low; high = n } ∷ widen n rest)) high
    ∙ sym (ap (λ xs. made ++ widen most xs) here) ∙ kept

or_none : (a : Bool) → (a || false) ≡ a
or_none true = refl
or_none false = refl

or_assoc : (a b c : Bool) → (a || (b || c)) ≡ ((a || b) || c)
or_assoc true b c = refl
or_assoc false b c = refl

-- one element more
any_more : {A : Type 0} (p : A → Bool) (xs : List A) (x : A) → list_any p (xs ++ x ∷ [])
    ≡ (list_any p xs || p x)
any_more p [] x = or_none (p x)
any_more p (y ∷ xs) x = ap (λ b. p y || b) (any_more p xs x) ∙ or_assoc (p y) (list_any p xs) (p x)

pub any_element : (c : ℕ) (es : List HeldElement) (e : HeldElement) → list_any (in_element c)
    (map element_of (es ++ e ∷ [])) ≡ (list_any (in_element c) (map element_of es)
    || in_element c (element_of e))
any_element c es e = ap (list_any (in_element c)) (map-append element_of es (e ∷ []))
    ∙ any_more (in_element c) (map element_of es) (element_of e)

-- a class whose parts are put in order is the same set
pub class_same : (set : HeldSet) (negated : Bool) (elements : Vec HeldElement Global)
    (spans ordered : List Span) (others : List HeldElement) → set ≡ held.Class negated elements
    → HasParts elements.items spans others
    → ((c : ℕ) → list_any (in_element c) (map span_element ordered)
    ≡ list_any (in_element c) (map span_element spans))
    → SameSet (set_of set) (CharSet.class negated (map span_element ordered ++ map element_of others))
class_same set negated elements spans ordered others is parts same = λ c.
    ap (λ s. in_set (set_of s) c) is
    ∙ ap (λ b. is_scalar c && negated_if negated b)
    (parts.each c
    ∙ ap (λ b. b || list_any (in_element c) (map element_of others)) (sym (same c))
    ∙ sym (list_any-append (in_element c) (map span_element ordered) (map element_of others)))

-- ---- categories that are there

-- two lists whose elements pass the test alike
pub any_alike : {A : Type 0} (test : A → Bool) (xs ys : List A) → length xs ≡ length ys →
    ((k : ℕ) (d : A) → k < length xs → test (get_or xs k d) ≡ test (get_or ys k d)) →
    list_any test xs ≡ list_any test ys
any_alike test [] [] same each = refl
any_alike test [] (y ∷ ys) same each = absurd (omega (arith, same))
any_alike test (x ∷ xs) [] same each = absurd (omega (arith, same))
any_alike test (x ∷ xs) (y ∷ ys) same each = ap₂ (λ a b. a || b) (each 0 x (omega arith))
    (any_alike test xs ys (omega (arith, same)) (λ k d lt. each (suc k) d (omega arith)))

-- one of the elements holds the character
pub any_listed : (c : ℕ) (es : List HeldElement) (k : ℕ) (d : HeldElement) → k < length es →
    in_element c (element_of (get_or es k d)) ≡ true →
    list_any (in_element c) (map element_of es) ≡ true
any_listed c [] k d lt holds = absurd (omega (arith, lt))
any_listed c (e ∷ es) zero d lt holds = ap (λ b. b || list_any (in_element c) (map element_of es)) holds
any_listed c (e ∷ es) (suc k) d lt holds =
    ap (λ b. in_element c (element_of e) || b) (any_listed c es k d (omega (arith, lt)) holds)
    ∙ or-true (in_element c (element_of e))

-- what holds nothing that is not held adds nothing
pub adds_nothing : (a b : Bool) (held : Bool) → (held ≡ true → b ≡ true) → (a || b) ≡ ((a || b) || held)
adds_nothing true b held h = refl
adds_nothing false true held h = refl
adds_nothing false false true h = absurd (false≢true (h refl))
adds_nothing false false false h = refl
