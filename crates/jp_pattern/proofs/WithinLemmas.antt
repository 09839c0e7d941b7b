-- What is read within the limits is what is read, as far as the counts and the depth fit.
use Rattle.std.proofs.Common.{◌≡◌, ℕ, zero, suc, ◌+◌, ◌-◌, ◌*◌, ◌<◌, ◌≤◌, Bool, true, false, ◌&&◌, ◌==◌}
use Rattle.std.proofs.Common.{nat_le, max, [], ◌∷◌, length, Option, Some, None, refl, sym, ap, ◌∙◌, inl, inr}
use Rattle.std.proofs.Common.{arith}
use Rattle.std.specs.Prelude.{option_map, option_and_then, if◌then◌else◌}
use Rattle.std.proofs.lemmas.Bool.{cases_Bool, and_parts, leb-true, le-leb, eqb-true}
use Rattle.jp_pattern.specs.Pattern.{Text, CharSet, Pattern, empty, letter, group, seq, either, repeat, plus}
use Rattle.jp_pattern.specs.Profile.{max_count, depth}
use Rattle.jp_pattern.specs.Quantity.{is_digit}
use Rattle.jp_pattern.specs.declared.tree.Quantity.{Quantity}
use Rattle.jp_pattern.specs.declared.tree.Quantity.TheVariants as quantities
use Rattle.jp_pattern.specs.inner.Reading.{Parse, Change, set_at, digits_at, count_at, close_count_at}
use Rattle.jp_pattern.specs.inner.Reading.{after_comma_at, after_least_at, quantity_at, close_group_at}
use Rattle.jp_pattern.specs.inner.Reading.{atom_at}
use Rattle.jp_pattern.specs.inner.Reading.{with_quantity, piece_at, prepend, with_piece, pattern_at, if_whole}
use Rattle.jp_pattern.specs.inner.Reading.{read}
use Rattle.jp_pattern.specs.inner.Reading.{with_quantity_of, digits_within, count_within, close_count_within}
use Rattle.jp_pattern.specs.inner.Reading.{after_comma_within, after_least_within, quantity_within}
use Rattle.jp_pattern.specs.inner.Reading.{group_within}
use Rattle.jp_pattern.specs.inner.Reading.{atom_within, quantified_within, piece_within, piece, next_part}
use Rattle.jp_pattern.specs.inner.Reading.{after_part, pattern_within, read_within}
use Rattle.jp_pattern.proofs.RightTests.{are_counts, has_counts}

-- ---- a test on what was read

kept : {A : Type 0} → (A → Bool) → Option (A × Text) → Option (A × Text)
kept p None = None
kept p (Some r) = if p r.0 then Some r else None

false_by : (b : Bool) → (b ≡ true → ⊥) → b ≡ false
false_by true h = absurd (h refl)
false_by false h = refl

le_false : (a b : ℕ) → b < a → nat_le a b ≡ false
le_false a b lt = false_by (nat_le a b) (λ e. let le = leb-true a b e in omega arith)

le_same : (a b c d : ℕ) → (a ≤ b → c ≤ d) → (c ≤ d → a ≤ b) → nat_le a b ≡ nat_le c d
le_same a b c d f g =
    elim (cases_Bool (nat_le a b)) [
      | inl h ↦ h ∙ sym (le-leb c d (f (leb-true a b h)))
      | inr h ↦
          let k : nat_le c d ≡ false = false_by (nat_le c d) (λ e. let m : true ≡ false =
          sym (le-leb a b (g (leb-true c d e))) ∙ h in absurd (cc m)) in
          h ∙ sym k
    ]

-- ---- counts

fits_count : ℕ → Bool
fits_count n = nat_le n max_count

digits_grow : (t : Text) (n : ℕ) → n ≤ (digits_at n t).0
digits_grow [] n = omega arith
digits_grow (c ∷ t) n =
    elim (cases_Bool (is_digit c)) [
      | inl h ↦ rw h (let more = digits_grow t (n * 10 + (c - 48)) in omega (arith, more))
      | inr h ↦ rw h (omega arith)
    ]

digits_kept : (t : Text) (n : ℕ) → n ≤ max_count → digits_within n t ≡ kept fits_count (Some (digits_at n t))
unfolding kept fits_count
digits_kept [] n le = rw (le-leb n max_count le) refl
digits_kept (c ∷ t) n le =
    elim (cases_Bool (is_digit c)) [
      | inl h ↦ elim (cases_Bool (nat_le (n * 10 + (c - 48)) max_count)) [
        | inl i ↦ rw (h, i) (digits_kept t (n * 10 + (c - 48)) (leb-true _ _ i))
        | inr i ↦
            let over : nat_le (digits_at (n * 10 + (c - 48)) t).0 max_count ≡ false =
            false_by _ (λ e.
            let a = leb-true _ _ e in
            let b = digits_grow t (n * 10 + (c - 48)) in
            let k : nat_le (n * 10 + (c - 48)) max_count ≡ true = le-leb _ _ (omega (arith, a, b)) in
            let m : true ≡ false = sym k ∙ i in absurd (cc m)) in
            rw (h, i, over) refl
      ]
      | inr h ↦ rw (h, le-leb n max_count le) refl
    ]

count_kept : (t : Text) → count_within t ≡ kept fits_count (count_at t)
unfolding kept
count_kept [] = refl
count_kept (c ∷ t) =
    elim (cases_Bool (is_digit c)) [
      | inl h ↦
          let all = digits_kept (c ∷ t) 0 (omega arith) in
          let same : count_within (c ∷ t) ≡ digits_within 0 (c ∷ t) = rw h refl in
          let other : count_at (c ∷ t) ≡ Some (digits_at 0 (c ∷ t)) = rw h refl in
          same ∙ all ∙ ap (kept fits_count) (sym other)
      | inr h ↦ rw h refl
    ]

-- what the quantity makes of an atom keeps to the counts
pub quantity_fits : Quantity → Bool
quantity_fits quantities.Once = true
quantity_fits quantities.Plus = true
quantity_fits (quantities.Repeat least most) = are_counts least most

change_of : Quantity × Text → Change × Text
change_of q = (with_quantity_of q.0, q.1)

-- the quantity as it stands, whatever its counts are
close_any : ℕ → ℕ → Parse Quantity
close_any n m [] = None
close_any n m (c ∷ t) = if c == 125 then Some (quantities.Repeat n (Some m), t) else None

comma_any : ℕ → Parse Quantity
comma_any n [] = None
comma_any n (c ∷ t) = if c == 125 then Some (quantities.Repeat n None, t) else option_and_then
    (λ r. close_any n r.0 r.1) (count_at (c ∷ t))

least_any : ℕ → Parse Quantity
least_any n [] = None
least_any n (c ∷ t) = if c == 125 then Some (quantities.Repeat n (Some n), t) else if c == 44 then comma_any n
    t else None

pub quantity_any : Parse Quantity
quantity_any [] = Some (quantities.Once, [])
quantity_any (c ∷ t) =
    if c == 42 then Some (quantities.Repeat 0 None, t)
    else if c == 63 then Some (quantities.Repeat 0 (Some 1), t)
    else if c == 43 then Some (quantities.Plus, t)
    else if c == 123 then option_and_then (λ r. least_any r.0 r.1) (count_at t)
    else Some (quantities.Once, c ∷ t)

map_of_then : {A B C : Type 0} (f : B → C) (g : A → Option B) (h : A → Option C) (o : Option A)
    → ((a : A) → h a ≡ option_map f (g a)) → option_and_then h o ≡ option_map f (option_and_then g o)
map_of_then f g h None e = refl
map_of_then f g h (Some a) e = e a

close_change : (n m : ℕ) (t : Text) → close_count_at n m t ≡ option_map change_of (close_any n m t)
unfolding close_any change_of
close_change n m [] = refl
close_change n m (c ∷ t) = elim (cases_Bool (c == 125)) [ inl h ↦ rw h refl | inr h ↦ rw h refl ]

comma_change : (n : ℕ) (t : Text) → after_comma_at n t ≡ option_map change_of (comma_any n t)
unfolding comma_any change_of
comma_change n [] = refl
comma_change n (c ∷ t) =
    elim (cases_Bool (c == 125)) [
      | inl h ↦ rw h refl
      | inr h ↦ rw h (map_of_then change_of (λ (r : ℕ × Text). close_any n r.0 r.1)
          (λ r. close_count_at n r.0 r.1) (count_at (c ∷ t)) (λ r. close_change n r.0 r.1))
    ]

least_change : (n : ℕ) (t : Text) → after_least_at n t ≡ option_map change_of (least_any n t)
unfolding least_any change_of
least_change n [] = refl
least_change n (c ∷ t) =
    elim (cases_Bool (c == 125)) [
      | inl h ↦ rw h refl
      | inr h ↦ elim (cases_Bool (c == 44)) [ inl i ↦ rw (h, i) (comma_change n t) | inr i ↦ rw (h, i) refl ]
    ]

quantity_change : (t : Text) → quantity_at t ≡ option_map change_of (quantity_any t)
unfolding quantity_any change_of
quantity_change [] = refl
quantity_change (c ∷ t) =
    elim (cases_Bool (c == 42)) [
      | inl h ↦ rw h refl
      | inr h ↦ elim (cases_Bool (c == 63)) [
        | inl i ↦ rw (h, i) refl
        | inr i ↦ elim (cases_Bool (c == 43)) [
          | inl j ↦ rw (h, i, j) refl
          | inr j ↦ elim (cases_Bool (c == 123)) [
            | inl k ↦ rw (h, i, j, k) (map_of_then change_of (λ (r : ℕ × Text). least_any r.0 r.1)
                (λ r. after_least_at r.0 r.1) (count_at t) (λ r. least_change r.0 r.1))
            | inr k ↦ rw (h, i, j, k) refl
          ]
        ]
      ]
    ]

and_false : (b : Bool) → (b && false) ≡ false
and_false true = refl
and_false false = refl

counts_over : (n m : ℕ) → nat_le n max_count ≡ false → (nat_le n m && nat_le m max_count) ≡ false
counts_over n m h =
    false_by (nat_le n m && nat_le m max_count) (λ e.
    let both = and_parts (nat_le n m) (nat_le m max_count) e in
    let a = leb-true n m both.0 in
    let b = leb-true m max_count both.1 in
    let k : true ≡ false = sym (le-leb n max_count (omega (arith, a, b))) ∙ h in absurd (cc k))

close_kept : (n m : ℕ) (t : Text) → nat_le m max_count ≡ true → close_count_within n m t
    ≡ kept quantity_fits (close_any n m t)
unfolding kept close_any quantity_fits
close_kept n m [] h = refl
close_kept n m (c ∷ t) h =
    elim (cases_Bool (c == 125)) [
      | inl i ↦ elim (cases_Bool (nat_le n m)) [ inl j ↦ rw (i, j, h) refl | inr j ↦ rw (i, j) refl ]
      | inr i ↦ rw i refl
    ]

close_over : (n m : ℕ) (t : Text) → nat_le m max_count ≡ false → None ≡ kept quantity_fits (close_any n m t)
unfolding kept close_any quantity_fits
close_over n m [] h = refl
close_over n m (c ∷ t) h =
    elim (cases_Bool (c == 125)) [
      | inl i ↦ rw (i, h, and_false (nat_le n m)) refl
      | inr i ↦ rw i refl
    ]

comma_kept : (n : ℕ) (t : Text) → nat_le n max_count ≡ true
    → after_comma_within n t ≡ kept quantity_fits (comma_any n t)
unfolding kept comma_any quantity_fits fits_count
comma_kept n [] h = refl
comma_kept n (c ∷ t) h =
    elim (cases_Bool (c == 125)) [
      | inl i ↦ rw (i, h) refl
      | inr i ↦ rw (i, count_kept (c ∷ t)) (counted (count_at (c ∷ t)))
    ]
  where
    counted : (o : Option (ℕ × Text)) → option_and_then (λ r. close_count_within n r.0 r.1)
        (kept fits_count o) ≡ kept quantity_fits (option_and_then (λ r. close_any n r.0 r.1) o)
    counted None = refl
    counted (Some r) =
        elim (cases_Bool (nat_le r.0 max_count)) [
          | inl k ↦ rw k (close_kept n r.0 r.1 k)
          | inr k ↦ rw k (close_over n r.0 r.1 k)
        ]

least_kept : (n : ℕ) (t : Text) → nat_le n max_count ≡ true
    → after_least_within n t ≡ kept quantity_fits (least_any n t)
unfolding kept least_any quantity_fits
least_kept n [] h = refl
least_kept n (c ∷ t) h =
    elim (cases_Bool (c == 125)) [
      | inl i ↦ rw (i, h, le-leb n n (omega arith)) refl
      | inr i ↦ elim (cases_Bool (c == 44)) [ inl j ↦ rw (i, j) (comma_kept n t h) | inr j ↦ rw (i, j) refl ]
    ]

close_least_over : (n m : ℕ) (t : Text) → nat_le n max_count ≡ false → kept quantity_fits (close_any n m t)
    ≡ None
unfolding kept close_any quantity_fits
close_least_over n m [] h = refl
close_least_over n m (c ∷ t) h =
    elim (cases_Bool (c == 125)) [ inl i ↦ rw (i, counts_over n m h) refl | inr i ↦ rw i refl ]

comma_over : (n : ℕ) (t : Text) → nat_le n max_count ≡ false → kept quantity_fits (comma_any n t) ≡ None
unfolding kept comma_any quantity_fits fits_count
comma_over n [] h = refl
comma_over n (c ∷ t) h =
    elim (cases_Bool (c == 125)) [
      | inl i ↦ rw (i, h) refl
      | inr i ↦ rw i (counted (count_at (c ∷ t)))
    ]
  where
    counted : (o : Option (ℕ × Text)) → kept quantity_fits (option_and_then (λ r. close_any n r.0 r.1) o)
        ≡ None
    counted None = refl
    counted (Some r) = close_least_over n r.0 r.1 h

least_over : (n : ℕ) (t : Text) → nat_le n max_count ≡ false → None ≡ kept quantity_fits (least_any n t)
unfolding kept least_any quantity_fits
least_over n [] h = refl
least_over n (c ∷ t) h =
    elim (cases_Bool (c == 125)) [
      | inl i ↦ rw (i, counts_over n n h) refl
      | inr i ↦ elim (cases_Bool (c == 44)) [
        | inl j ↦ rw (i, j) (sym (comma_over n t h))
        | inr j ↦ rw (i, j)
            refl
      ]
    ]

quantity_kept : (t : Text) → quantity_within t ≡ kept quantity_fits (quantity_any t)
unfolding kept quantity_any quantity_fits fits_count
quantity_kept [] = refl
quantity_kept (c ∷ t) =
    elim (cases_Bool (c == 42)) [
      | inl h ↦ rw h refl
      | inr h ↦ elim (cases_Bool (c == 63)) [
        | inl i ↦ rw (h, i) refl
        | inr i ↦ elim (cases_Bool (c == 43)) [
          | inl j ↦ rw (h, i, j) refl
          | inr j ↦ elim (cases_Bool (c == 123)) [
            | inl k ↦ rw (h, i, j, k, count_kept t) (counted (count_at t))
            | inr k ↦ rw (h, i, j, k) refl
          ]
        ]
      ]
    ]
  where
    counted : (o : Option (ℕ × Text)) → option_and_then (λ r. after_least_within r.0 r.1) (kept fits_count o)
        ≡ kept quantity_fits (option_and_then (λ r. least_any r.0 r.1) o)
    counted None = refl
    counted (Some r) =
        elim (cases_Bool (nat_le r.0 max_count)) [
          | inl k ↦ rw k (least_kept r.0 r.1 k)
          | inr k ↦ rw k (least_over r.0 r.1 k)
        ]

-- ---- patterns

unfoldable pub fits : ℕ → Pattern → Bool
fits left p = has_counts p && nat_le (depth p) left

zero_fits : (left : ℕ) → nat_le 0 left ≡ true
zero_fits left = le-leb 0 left (omega arith)

max_fits : (a b n : ℕ) → nat_le (max a b) n ≡ (nat_le a n && nat_le b n)
max_fits a b n =
    elim (cases_Bool (nat_le a n)) [
      | inl h ↦ elim (cases_Bool (nat_le b n)) [
        | inl i ↦ let x = leb-true a n h in let y =
            leb-true b n i in rw (h, i) (le-leb (max a b) n (omega arith))
        | inr i ↦ rw (h, i) (false_by (nat_le (max a b) n) (λ e. let x =
            leb-true (max a b) n e in let k : true ≡ false = sym (le-leb b n (omega arith))
            ∙ i in absurd (cc k)))
      ]
      | inr h ↦ rw h (false_by (nat_le (max a b) n) (λ e. let x = leb-true (max a b) n e in let k : true
          ≡ false = sym (le-leb a n (omega arith)) ∙ h in absurd (cc k)))
    ]

two_by_two : (a b c d : Bool) → ((a && b) && (c && d)) ≡ ((a && c) && (b && d))
two_by_two true b true d = refl
two_by_two true b false d = and_false b
two_by_two false b true d = refl
two_by_two false b false d = refl

three_by_two : (a b c x y z : Bool) → (((a && b) && c) && ((x && y) && z))
    ≡ ((a && x) && ((b && c) && (y && z)))
three_by_two true b c true y z = refl
three_by_two true b c false y z = and_false (b && c)
three_by_two false b c x y z = refl

seq_fits : (left : ℕ) (p q : Pattern) → fits left (seq p q) ≡ (fits left p && fits left q)
unfolding fits
seq_fits left p q = rw (max_fits (depth p) (depth q) left) (two_by_two (has_counts p) (has_counts q)
    (nat_le (depth p) left) (nat_le (depth q) left))

prepend_fits : (left : ℕ) (p q : Pattern) → fits left (prepend p q) ≡ (fits left p && fits left q)
unfolding fits
prepend_fits left p empty = seq_fits left p empty
prepend_fits left p (letter set) = seq_fits left p (letter set)
prepend_fits left p (group q) = seq_fits left p (group q)
prepend_fits left p (seq q r) = seq_fits left p (seq q r)
prepend_fits left p (either b q) =
    rw (
      max_fits (max (depth p) (depth b)) (depth q) left,
      max_fits (depth p) (depth b) left,
      max_fits
          (depth b) (depth q) left,
    )
    (three_by_two (has_counts p) (has_counts b) (has_counts q) (nat_le (depth p) left) (nat_le (depth b) left)
    (nat_le (depth q) left))
prepend_fits left p (repeat least most q) = seq_fits left p (repeat least most q)
prepend_fits left p (plus q) = seq_fits left p (plus q)

either_fits : (left : ℕ) (q : Pattern) → fits left (either empty q) ≡ fits left q
unfolding fits
either_fits left q = rw (max_fits 0 (depth q) left, zero_fits left) refl

and_assoc : (a b c : Bool) → ((a && b) && c) ≡ (a && (b && c))
and_assoc true b c = refl
and_assoc false b c = refl

quantified_fits : (left : ℕ) (q : Quantity) (p : Pattern) → fits left (with_quantity_of q p)
    ≡ (quantity_fits q && fits left p)
unfolding fits quantity_fits
quantified_fits left quantities.Once p = refl
quantified_fits left quantities.Plus p = refl
quantified_fits left (quantities.Repeat least most) p = and_assoc (are_counts least most) (has_counts p)
    (nat_le (depth p) left)

no_group : (p : Pattern) → fits 0 (group p) ≡ false
unfolding fits
no_group p = rw (le_false (1 + depth p) 0 (omega arith)) (and_false (has_counts p))

group_fits : (left : ℕ) (p : Pattern) → fits (suc left) (group p) ≡ fits left p
unfolding fits
group_fits left p = ap (λ b. has_counts p && b) (le_same (1 + depth p) (suc left) (depth p) left
    (λ h. omega arith) (λ h. omega arith))

module _ (n : ℕ) (inside : (left : ℕ) (t : Text) → pattern_within left n t
    ≡ kept (fits left) (pattern_at n t)) where
  closed : (left : ℕ) (p : Pattern) (u : Text) → fits left p ≡ true
      → close_group_at p u ≡ kept (fits (suc left)) (close_group_at p u)
  unfolding kept
  closed left p [] h = refl
  closed left p (c ∷ u) h = elim (cases_Bool (c == 41)) [
    | inl i ↦ rw (i, group_fits left p, h) refl
    | inr i ↦
        rw i refl
  ]

  not_closed : (left : ℕ) (p : Pattern) (u : Text) → fits left (group p) ≡ false
      → None ≡ kept (fits left) (close_group_at p u)
  unfolding kept
  not_closed left p [] h = refl
  not_closed left p (c ∷ u) h = elim (cases_Bool (c == 41)) [ inl i ↦ rw (i, h) refl | inr i ↦ rw i refl ]

  none_left : (o : Option (Pattern × Text))
      → None ≡ kept (fits 0) (option_and_then (λ r. close_group_at r.0 r.1) o)
  unfolding kept
  none_left None = refl
  none_left (Some r) = not_closed 0 r.0 r.1 (no_group r.0)

  one_left : (left : ℕ) (o : Option (Pattern × Text))
      → option_and_then (λ r. close_group_at r.0 r.1) (kept (fits left) o)
      ≡ kept (fits (suc left)) (option_and_then (λ r. close_group_at r.0 r.1) o)
  unfolding kept
  one_left left None = refl
  one_left left (Some r) =
      elim (cases_Bool (fits left r.0)) [
        | inl h ↦ rw h (closed left r.0 r.1 h)
        | inr h ↦ rw h (not_closed (suc left) r.0 r.1 (group_fits left r.0 ∙ h))
      ]

  group_kept : (left : ℕ) (t : Text) → group_within (λ l. pattern_within l n) left t
      ≡ kept (fits left) (option_and_then (λ r. close_group_at r.0 r.1) (pattern_at n t))
  unfolding group_within
  group_kept zero t = none_left (pattern_at n t)
  group_kept (suc left) t =
      let back : suc left - 1 ≡ left = omega arith in
      let some : (suc left == 0) ≡ false =
      false_by (suc left == 0) (λ e. let h = eqb-true (suc left) 0 e in omega (arith, h)) in
      rw (some, back, inside left t) (one_left left (pattern_at n t))

  letters : (left : ℕ) (o : Option (CharSet × Text)) → option_map (λ r. (letter r.0, r.1)) o
      ≡ kept (fits left) (option_map (λ r. (letter r.0, r.1)) o)
  unfolding kept fits
  letters left None = refl
  letters left (Some r) = rw (zero_fits left) refl

  atom_kept : (left : ℕ) (t : Text) → atom_within (λ l. pattern_within l n) left t
      ≡ kept (fits left) (atom_at (pattern_at n) t)
  unfolding atom_within kept
  atom_kept left [] = refl
  atom_kept left (c ∷ t) =
      elim (cases_Bool (c == 40)) [
        | inl h ↦ rw h (group_kept left t)
        | inr h ↦ rw h (letters left (set_at (c ∷ t)))
      ]

  quantified : (left : ℕ) (p : Pattern) (o : Option (Quantity × Text)) → fits left p ≡ true →
      option_map (λ q. (with_quantity_of q.0 p, q.1)) (kept quantity_fits o)
      ≡ kept (fits left) (option_map (λ q. (with_quantity_of q.0 p, q.1)) o)
  unfolding kept
  quantified left p None h = refl
  quantified left p (Some q) h =
      elim (cases_Bool (quantity_fits q.0)) [
        | inl i ↦ rw (quantified_fits left q.0 p, i, h) refl
        | inr i ↦ rw (quantified_fits left q.0 p, i) refl
      ]

  unquantified : (left : ℕ) (p : Pattern) (o : Option (Quantity × Text)) → fits left p ≡ false
      → None ≡ kept (fits left) (option_map (λ q. (with_quantity_of q.0 p, q.1)) o)
  unfolding kept
  unquantified left p None h = refl
  unquantified left p (Some q) h = rw (quantified_fits left q.0 p, h, and_false (quantity_fits q.0)) refl

  by_change : Pattern → Change × Text → Pattern × Text
  by_change p q = (q.0 p, q.1)

  by_quantity : Pattern → Quantity × Text → Pattern × Text
  by_quantity p q = (with_quantity_of q.0 p, q.1)

  changed : (p : Pattern) (o : Option (Quantity × Text)) → option_map (by_change p) (option_map change_of o)
      ≡ option_map (by_quantity p) o
  unfolding change_of by_change by_quantity
  changed p None = refl
  changed p (Some q) = refl

  with_quantity_kept : (left : ℕ) (o : Option (Pattern × Text))
      → option_and_then quantified_within (kept (fits left) o)
      ≡ kept (fits left) (option_and_then with_quantity o)
  unfolding kept by_change by_quantity
  with_quantity_kept left None = refl
  with_quantity_kept left (Some a) =
      let all : with_quantity a ≡ option_map (by_quantity a.0) (quantity_any a.1) =
      ap (option_map (by_change a.0)) (quantity_change a.1) ∙ changed a.0 (quantity_any a.1) in
      elim (cases_Bool (fits left a.0)) [
        | inl h ↦ rw (h, quantity_kept a.1) (quantified left a.0 (quantity_any a.1) h
            ∙ ap (kept (fits left)) (sym all))
        | inr h ↦ rw h (unquantified left a.0 (quantity_any a.1) h ∙ ap (kept (fits left)) (sym all))
      ]

  piece_kept : (left : ℕ) (t : Text) → piece_within (λ l. pattern_within l n) left t
      ≡ kept (fits left) (piece_at (pattern_at n) t)
  unfolding piece_within
  piece_kept left t = ap (option_and_then quantified_within) (atom_kept left t)
      ∙ with_quantity_kept left (atom_at (pattern_at n) t)

  behind : (left : ℕ) (p : Pattern) (o : Option (Pattern × Text)) → fits left p ≡ true
      → option_map (λ r. (prepend p r.0, r.1)) (kept (fits left) o)
      ≡ kept (fits left) (option_map (λ r. (prepend p r.0, r.1)) o)
  unfolding kept
  behind left p None h = refl
  behind left p (Some r) h =
      elim (cases_Bool (fits left r.0)) [
        | inl i ↦ rw (prepend_fits left p r.0, h, i) refl
        | inr i ↦ rw (prepend_fits left p r.0, h, i) refl
      ]

  not_behind : (left : ℕ) (p : Pattern) (o : Option (Pattern × Text)) → fits left p ≡ false
      → None ≡ kept (fits left) (option_map (λ r. (prepend p r.0, r.1)) o)
  unfolding kept
  not_behind left p None h = refl
  not_behind left p (Some r) h = rw (prepend_fits left p r.0, h) refl

  pieces : (left : ℕ) (o : Option (Pattern × Text)) → option_and_then (after_part (pattern_within left n))
      (option_map (λ r. (piece r.0, r.1)) (kept (fits left) o))
      ≡ kept (fits left) (option_and_then (with_piece (pattern_at n)) o)
  unfolding kept
  pieces left None = refl
  pieces left (Some a) =
      elim (cases_Bool (fits left a.0)) [
        | inl h ↦ rw (h, inside left a.1) (behind left a.0 (pattern_at n a.1) h)
        | inr h ↦ rw h (not_behind left a.0 (pattern_at n a.1) h)
      ]

  barred : (left : ℕ) (o : Option (Pattern × Text))
      → option_map (λ r. (either empty r.0, r.1)) (kept (fits left) o)
      ≡ kept (fits left) (option_map (λ r. (either empty r.0, r.1)) o)
  unfolding kept
  barred left None = refl
  barred left (Some r) =
      elim (cases_Bool (fits left r.0)) [
        | inl h ↦ rw (either_fits left r.0, h) refl
        | inr h ↦ rw
            (either_fits left r.0, h) refl
      ]

  one_more : (left : ℕ) (t : Text) → pattern_within left (suc n) t ≡ kept (fits left) (pattern_at (suc n) t)
  unfolding pattern_within next_part kept fits
  one_more left [] = rw (zero_fits left) refl
  one_more left (c ∷ t) =
      elim (cases_Bool (c == 41)) [
        | inl h ↦ rw (h, zero_fits left) refl
        | inr h ↦ elim (cases_Bool (c == 124)) [
          | inl i ↦ rw (h, i, inside left t) (barred left (pattern_at n t))
          | inr i ↦ rw (h, i, piece_kept left (c ∷ t)) (pieces left (piece_at (pattern_at n) (c ∷ t)))
        ]
      ]

pattern_kept : (n left : ℕ) (t : Text) → pattern_within left n t ≡ kept (fits left) (pattern_at n t)
unfolding pattern_within kept
pattern_kept zero left t = refl
pattern_kept (suc n) left t = one_more n (λ l u. pattern_kept n l u) left t

-- ---- the whole text

unfoldable pub kept_whole : Option Pattern → Option Pattern
kept_whole None = None
kept_whole (Some p) = if fits 64 p then Some p else None

whole_kept : (o : Option (Pattern × Text)) → option_and_then if_whole (kept (fits 64) o)
    ≡ kept_whole (option_and_then if_whole o)
unfolding kept kept_whole
whole_kept None = refl
whole_kept (Some (p, [])) = elim (cases_Bool (fits 64 p)) [ inl h ↦ rw h refl | inr h ↦ rw h refl ]
whole_kept (Some (p, c ∷ t)) = elim (cases_Bool (fits 64 p)) [ inl h ↦ rw h refl | inr h ↦ rw h refl ]

pub read_kept : (t : Text) → read_within t ≡ kept_whole (read t)
unfolding read_within
read_kept t =
    let more : length t + 1 ≡ suc (length t) = omega arith in
    rw more (ap (option_and_then if_whole) (pattern_kept (suc (length t)) 64 t)
    ∙ whole_kept (pattern_at (suc (length t)) t))
