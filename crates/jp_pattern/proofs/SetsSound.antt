-- What the reader reads as a set of characters, the grammar spells.
use Rattle.std.proofs.Common.{◌≡◌, ℕ, zero, suc, Bool, true, false, ◌==◌, not, ◌&&◌, List, [], ◌∷◌, ◌++◌}
use Rattle.std.proofs.Common.{length, Option, Some, None, refl, sym, ap, ◌∙◌, subst, inl, inr, append_assoc}
use Rattle.std.proofs.Common.{eq-eqb}
use Rattle.std.specs.Prelude.{option_map, option_and_then, nat_le, if◌then◌else◌}
use Rattle.std.proofs.lemmas.Bool.{cases_Bool, eqb-true, leb-true}
use Rattle.unicode.specs.declared.properties.GeneralCategory.{GeneralCategory}
use Rattle.jp_pattern.specs.Pattern.{Text, Element, CharSet}
use Rattle.jp_pattern.specs.CategoryNames.{IsCategoryName}
use Rattle.jp_pattern.specs.CharSetShape.{is_normal, is_class_normal, is_escaped, IsSingle, line_feed}
use Rattle.jp_pattern.specs.CharSetShape.{carriage_return, tab, itself, inside, outside, IsInner, bare}
use Rattle.jp_pattern.specs.CharSetShape.{escaped, IsElement, single, span, categorical, AreElements, none}
use Rattle.jp_pattern.specs.CharSetShape.{last_hyphen, more, IsListing, first_hyphen, first_element, listed}
use Rattle.jp_pattern.specs.CharSetShape.{negated, IsCharSet, normal, escape, any, property, brackets}
use Rattle.jp_pattern.specs.inner.Reading.{categories_named, named, second_letter_at, single_value, single_at}
use Rattle.jp_pattern.specs.inner.Reading.{name_at, category_at, inner_at, range_from, after_inner}
use Rattle.jp_pattern.specs.inner.Reading.{escape_element_at, element_at, close_at, with_element, elements_at}
use Rattle.jp_pattern.specs.inner.Reading.{listing_at, class_at, escape_set_at, set_at}
use Rattle.jp_pattern.proofs.NamesSound.{categories_sound}
use Rattle.jp_pattern.proofs.SetsRead.{element_begins, BeginsElement}

-- a front of the text is such a part, and the rest is left
abbrev pub Front : {A : Type 0} → (Text → A → Type 0) → Text → A × Text → Type 0
Front P t r = (s : Text) × (t ≡ s ++ r.1) × P s r.0

-- a value, for a body that names its parts
abbrev pub using : {A B : Type 0} → A → (A → B) → B
using a f = f a

pub map_some : {A B : Type 0} (f : A → B) (o : Option A) (r : B) → option_map f o ≡ Some r
    → (a : A) × (o ≡ Some a) × (f a ≡ r)
map_some f None r e = absurd cc
map_some f (Some a) r e = (a, refl, cc)

pub then_some : {A B : Type 0} (f : A → Option B) (o : Option A) (r : B) → option_and_then f o ≡ Some r
    → (a : A) × (o ≡ Some a) × (f a ≡ Some r)
then_some f None r e = absurd cc
then_some f (Some a) r e = (a, refl, e)

pub head : (c d : ℕ) (t : Text) → (c == d) ≡ true → c ∷ t ≡ d ∷ t
head c d t h = ap (λ x. x ∷ t) (eqb-true c d h)

-- ---- escapes and categories

value_sound : (d v : ℕ) → single_value d ≡ Some v → IsSingle (92 ∷ d ∷ []) v
value_sound d v e =
    elim (cases_Bool (d == 110)) [
      | inl h ↦ let f = rw h at e in let w : v ≡ 10 = cc in rw (eqb-true d 110 h, w) line_feed
      | inr h ↦ let f = rw h at e in elim (cases_Bool (d == 114)) [
        | inl i ↦ let g = rw i at f in let w : v ≡ 13 = cc in rw (eqb-true d 114 i, w) carriage_return
        | inr i ↦ let g = rw i at f in elim (cases_Bool (d == 116)) [
          | inl j ↦ let k = rw j at g in let w : v ≡ 9 = cc in rw (eqb-true d 116 j, w) tab
          | inr j ↦ let k = rw j at g in elim (cases_Bool (is_escaped d)) [
            | inl l ↦ let m = rw l at k in let w : v ≡ d = cc in rw w (itself d l)
            | inr l ↦ let m = rw l at k in absurd (cc m)
          ]
        ]
      ]
    ]

pub single_sound : (t : Text) (r : ℕ × Text) → single_at t ≡ Some r → Front (λ s c. IsSingle (92 ∷ s) c) t r
single_sound [] r e = absurd cc
single_sound (d ∷ t) r e =
    using (map_some (λ (w : ℕ). (w, t)) (single_value d) r e) (λ (v, f, g). (
      d ∷ [],
      ap (λ (q : ℕ × Text). d ∷ q.1) g,
      subst (λ (q : ℕ × Text). IsSingle (92 ∷ d ∷ []) q.0) g
          (value_sound d v f),
    ))

abbrev Named : Text → List GeneralCategory × Text → Type 0
Named t r = (s : Text) × (t ≡ s ++ (125 ∷ r.1)) × IsCategoryName s r.0

named_sound : (s t : Text) (c : ℕ) (r : List GeneralCategory × Text) → (c == 125) ≡ true → named s t ≡ Some r
    → (c ∷ t ≡ 125 ∷ r.1) × IsCategoryName s r.0
named_sound s t c r h e =
    using (map_some (λ (x : List GeneralCategory). (x, t)) (categories_named s) r e) (λ (cs, f, g). (
      rw (eqb-true c 125 h) (ap (λ (q : List GeneralCategory × Text). 125 ∷ q.1) g),
      subst
          (λ (q : List GeneralCategory × Text). IsCategoryName s q.0) g (categories_sound s cs f),
    ))

name_sound : (t : Text) (r : List GeneralCategory × Text) → name_at t ≡ Some r → Named t r
name_sound [] r e = absurd cc
name_sound (c ∷ []) r e = absurd cc
name_sound (c ∷ d ∷ t) r e =
    elim (cases_Bool (d == 125)) [
      | inl h ↦ using (named_sound (c ∷ []) t d r h (rw h at e)) (λ (f, g). (c ∷ [], ap (λ u. c ∷ u) f, g))
      | inr h ↦ two t (rw h at e)
    ]
  where
    two : (u : Text) → second_letter_at c d u ≡ Some r → Named (c ∷ d ∷ u) r
    two [] f = absurd cc
    two (x ∷ u) f =
        elim (cases_Bool (x == 125)) [
          | inl i ↦ using (named_sound (c ∷ d ∷ []) u x r i (rw i at f))
              (λ (g, k). (c ∷ d ∷ [], ap (λ v. c ∷ d ∷ v) g, k))
          | inr i ↦ let g = rw i at f in absurd (cc g)
        ]

-- behind `\p` or `\P`
category_sound : (t : Text) (r : List GeneralCategory × Text) → category_at t ≡ Some r → (s : Text)
    × (t ≡ 123 ∷ ((s ++ (125 ∷ [])) ++ r.1)) × IsCategoryName s r.0
category_sound [] r e = absurd cc
category_sound (c ∷ t) r e =
    elim (cases_Bool (c == 123)) [
      | inl h ↦ using (name_sound t r (rw h at e))
          (λ (s, f, g). (s, head c 123 t h ∙ ap (λ u. 123 ∷ u) (f ∙ sym (append_assoc s (125 ∷ []) r.1)), g))
      | inr h ↦ let f = rw h at e in absurd (cc f)
    ]

-- ---- classes

inner_sound : (t : Text) (r : ℕ × Text) → inner_at t ≡ Some r → Front IsInner t r
inner_sound [] r e = absurd cc
inner_sound (c ∷ t) r e =
    elim (cases_Bool (c == 92)) [
      | inl h ↦ using (single_sound t r (rw h at e))
          (λ (s, f, g). (92 ∷ s, head c 92 t h ∙ ap (λ u. 92 ∷ u) f, escaped g))
      | inr h ↦ let f = rw h at e in bare_sound c t r f
    ]
  where
    bare_sound : (c : ℕ) (t : Text) (r : ℕ × Text) → (if is_class_normal c then Some (c, t) else None)
        ≡ Some r → Front IsInner (c ∷ t) r
    bare_sound c t r e =
        elim (cases_Bool (is_class_normal c)) [
          | inl h ↦ let f = rw h at e in let same : (c, t) ≡ r =
              cc f in (
                c ∷ [],
                ap (λ (q : ℕ × Text). c ∷ q.1) same,
                subst
                    (λ (q : ℕ × Text). IsInner (c ∷ []) q.0) same (bare c h),
              )
          | inr h ↦ let f = rw h at e in absurd (cc f)
        ]

-- the character that was read, or a range from it
range_sound : (s t : Text) (low : ℕ) (r : Element × Text) → IsInner s low → after_inner low t ≡ Some r
    → Front IsElement (s ++ t) r
range_sound s [] low r h e =
    let same : (Element.one low, []) ≡ r = cc in (
      s,
      ap (λ (q : Element × Text). s ++ q.1) same,
      subst (λ (q : Element × Text). IsElement s q.0) same
          (single h),
    )
range_sound s (d ∷ []) low r h e =
    let same : (Element.one low, d ∷ []) ≡ r = cc in (
      s,
      ap (λ (q : Element × Text). s ++ q.1) same,
      subst (λ (q : Element × Text). IsElement s q.0) same
          (single h),
    )
range_sound s (d ∷ c ∷ t) low r h e =
    elim (cases_Bool (d == 45 && not (c == 93))) [
      | inr i ↦
          let f = rw i at e in
          let same : (Element.one low, d ∷ c ∷ t) ≡ r = cc f in (
            s,
            ap (λ (q : Element × Text). s ++ q.1) same,
            subst (λ (q : Element × Text). IsElement s q.0) same
                (single h),
          )
      | inl i ↦
          let hyphen : (d == 45) ≡ true = front_true (d == 45) (not (c == 93)) i in
          using (then_some (range_from low) (inner_at (c ∷ t)) r (rw i at e)) (λ (a, f, g).
          using (inner_sound (c ∷ t) a f) (λ (u, k, l).
          to_range d hyphen a u k l g))
    ]
  where
    front_true : (a b : Bool) → (a && b) ≡ true → a ≡ true
    front_true true b e = refl
    front_true false b e = absurd cc

    to_range : (d : ℕ) → (d == 45) ≡ true → (a : ℕ × Text) (u : Text) → c ∷ t ≡ u ++ a.1 → IsInner u a.0
        → range_from low a ≡ Some r → Front IsElement (s ++ (d ∷ c ∷ t)) r
    to_range d hyphen a u k l g =
        elim (cases_Bool (nat_le low a.0)) [
          | inl m ↦
              let n = rw m at g in
              let same : (Element.range low a.0, a.1) ≡ r = cc n in
              let cut : s ++ (d ∷ c ∷ t) ≡ (s ++ (45 ∷ u)) ++ a.1 = ap (λ v. s ++ v) (head d 45 (c ∷ t) hyphen
              ∙ ap (λ v. 45 ∷ v) k) ∙ sym (append_assoc s (45 ∷ u) a.1) in (
                s ++ (45 ∷ u),
                cut ∙ ap (λ (q : Element × Text). (s ++ (45 ∷ u)) ++ q.1) same,
                subst
                    (λ (q : Element × Text). IsElement (s ++ (45 ∷ u)) q.0) same
                    (span h l (leb-true low a.0 m)),
              )
          | inr m ↦ let n = rw m at g in absurd (cc n)
        ]

element_sound : (t : Text) (r : Element × Text) → element_at t ≡ Some r → Front IsElement t r
element_sound [] r e = absurd cc
element_sound (c ∷ t) r e =
    elim (cases_Bool (c == 92)) [
      | inl h ↦ using (escaped_element t r (rw h at e)) (λ (s, f, g). (s, head c 92 t h ∙ f, g))
      | inr h ↦ normal_element (rw h at e)
    ]
  where
    normal_element : (if is_class_normal c then after_inner c t else None) ≡ Some r
        → Front IsElement (c ∷ t) r
    normal_element e =
        elim (cases_Bool (is_class_normal c)) [
          | inl h ↦ range_sound (c ∷ []) t c r (bare c h) (rw h at e)
          | inr h ↦ let f = rw h at e in absurd (cc f)
        ]

    escaped_element : (t : Text) (r : Element × Text) → escape_element_at t ≡ Some r
        → Front IsElement (92 ∷ t) r
    escaped_element [] r e = absurd cc
    escaped_element (d ∷ t) r e =
        elim (cases_Bool (d == 112)) [
          | inl h ↦
              using (map_some (λ (q : List GeneralCategory × Text). (Element.of_category false q.0, q.1))
              (category_at t) r (rw h at e)) (λ (a, f, g).
              using (category_sound t a f) (λ (s, k, l). (
                92 ∷ 112 ∷ 123 ∷ (s ++ (125 ∷ [])),
                ap (λ u. 92 ∷ u) (head d 112 t h
                    ∙ ap (λ u. 112 ∷ u) (k
                    ∙ ap (λ (q : Element × Text). 123 ∷ ((s ++ (125 ∷ [])) ++ q.1)) g)),
                subst (λ (q : Element × Text). IsElement (92 ∷ 112 ∷ 123 ∷ (s ++ (125 ∷ []))) q.0) g
                    (categorical (inside l)),
              )))
          | inr h ↦ other d t r (rw h at e)
        ]
      where
        other : (d : ℕ) (t : Text) (r : Element × Text)
            → (if d == 80 then option_map
            (λ (q : List GeneralCategory × Text). (Element.of_category true q.0, q.1)) (category_at t) else
            option_and_then (λ (q : ℕ × Text). after_inner q.0 q.1) (single_at (d ∷ t))) ≡ Some r
            → Front IsElement (92 ∷ d ∷ t) r
        other d t r e =
            elim (cases_Bool (d == 80)) [
              | inl h ↦
                  using (map_some (λ (q : List GeneralCategory × Text). (Element.of_category true q.0, q.1))
                  (category_at t) r (rw h at e)) (λ (a, f, g).
                  using (category_sound t a f) (λ (s, k, l). (
                    92 ∷ 80 ∷ 123 ∷ (s ++ (125 ∷ [])),
                    ap (λ u. 92 ∷ u) (head d 80 t h
                        ∙ ap (λ u. 80 ∷ u) (k
                        ∙ ap (λ (q : Element × Text). 123 ∷ ((s ++ (125 ∷ [])) ++ q.1)) g)),
                    subst (λ (q : Element × Text). IsElement (92 ∷ 80 ∷ 123 ∷ (s ++ (125 ∷ []))) q.0) g
                        (categorical (outside l)),
                  )))
              | inr h ↦
                  using (then_some (λ (q : ℕ × Text). after_inner q.0 q.1) (single_at (d ∷ t)) r (rw h at e))
                  (λ (a, f, g).
                  using (single_sound (d ∷ t) a f) (λ (s, k, l).
                  using (range_sound (92 ∷ s) a.1 a.0 r (escaped l) g) (λ (u, m, n).
                  (u, ap (λ v. 92 ∷ v) k ∙ m, n))))
            ]

-- up to the bracket that closes the class
abbrev pub Closed : (Text → List Element → Type 0) → Text → List Element × Text → Type 0
Closed P t r = (s : Text) × (t ≡ s ++ (93 ∷ r.1)) × P s r.0

joined_elements : (s t : Text) (x : Element) (v : Text) (q r : List Element × Text) → t ≡ s ++ v
    → (P : Text → List Element → Type 0) → ((u : Text) → AreElements u q.0 → P (s ++ u) (x ∷ q.0))
    → Closed AreElements v q → (x ∷ q.0, q.1) ≡ r → Closed P t r
joined_elements s t x v q r e P make (u, f, g) same = (
  s ++ u,
  e ∙ ap (λ w. s ++ w) f ∙ sym (append_assoc s u (93 ∷ q.1))
      ∙ ap (λ (p : List Element × Text). (s ++ u) ++ (93 ∷ p.1)) same,
  subst
      (λ (p : List Element × Text). P (s ++ u) p.0) same (make u g),
)

elements_sound : (n : ℕ) (t : Text) (r : List Element × Text) → elements_at n t ≡ Some r
    → Closed AreElements t r
elements_sound zero t r e = absurd cc
elements_sound (suc n) [] r e = absurd cc
elements_sound (suc n) (c ∷ t) r e =
    elim (cases_Bool (c == 93)) [
      | inl h ↦
          let f = rw h at e in
          let same : ([], t) ≡ r = cc f in (
            [],
            head c 93 t h ∙ ap (λ (q : List Element × Text). 93 ∷ q.1) same,
            subst
                (λ (q : List Element × Text). AreElements [] q.0) same none,
          )
      | inr h ↦ later (λ u q. elements_sound n u q) (rw h at e)
    ]
  where
    closing : (t : Text) (r : List Element × Text) → close_at t ≡ Some r → Closed AreElements (45 ∷ t) r
    closing [] r e = absurd cc
    closing (d ∷ t) r e =
        elim (cases_Bool (d == 93)) [
          | inl h ↦
              let f = rw h at e in
              let same : (Element.one 45 ∷ [], t) ≡ r = cc f in (
                45 ∷ [],
                ap (λ u. 45 ∷ u) (head d 93 t h ∙ ap (λ (q : List Element × Text). 93 ∷ q.1) same),
                subst (λ (q : List Element × Text). AreElements (45 ∷ []) q.0) same last_hyphen,
              )
          | inr h ↦ let f = rw h at e in absurd (cc f)
        ]

    later : ((u : Text) (q : List Element × Text) → elements_at n u ≡ Some q → Closed AreElements u q)
        → (if c == 45 then close_at t else option_and_then (with_element (elements_at n))
        (element_at (c ∷ t)))
        ≡ Some r → Closed AreElements (c ∷ t) r
    later rest e =
        elim (cases_Bool (c == 45)) [
          | inl h ↦ using (closing t r (rw h at e)) (λ (s, f, g). (s, head c 45 t h ∙ f, g))
          | inr h ↦
              using (then_some (with_element (elements_at n)) (element_at (c ∷ t)) r (rw h at e))
              (λ (a, f, g).
              using (element_sound (c ∷ t) a f) (λ (s, k, l).
              using (map_some (λ (p : List Element × Text). (a.0 ∷ p.0, p.1)) (elements_at n a.1) r g)
              (λ (q, m, o).
              joined_elements s (c ∷ t) a.0 a.1 q r k AreElements (λ u i. more l i) (rest a.1 q m) o)))
        ]

listing_sound : (n : ℕ) (t : Text) (r : List Element × Text) → listing_at n t ≡ Some r → Closed IsListing t r
listing_sound n [] r e = absurd cc
listing_sound n (c ∷ t) r e =
    elim (cases_Bool (c == 45)) [
      | inl h ↦
          using (map_some (λ (p : List Element × Text). (Element.one 45 ∷ p.0, p.1)) (elements_at n t) r
          (rw h at e)) (λ (q, m, o).
          joined_elements (45 ∷ []) (c ∷ t) (Element.one 45) t q r (head c 45 t h) IsListing
          (λ u i. first_hyphen i) (elements_sound n t q m) o)
      | inr h ↦
          using (then_some (with_element (elements_at n)) (element_at (c ∷ t)) r (rw h at e)) (λ (a, f, g).
          using (element_sound (c ∷ t) a f) (λ (s, k, l).
          using (map_some (λ (p : List Element × Text). (a.0 ∷ p.0, p.1)) (elements_at n a.1) r g)
          (λ (q, m, o).
          joined_elements s (c ∷ t) a.0 a.1 q r k IsListing (λ u i. first_element l i)
          (elements_sound n a.1 q m) o)))
    ]

-- ---- sets

listing_head : (s t : Text) (c : ℕ) (u : Text) (xs : List Element) → IsListing s xs → c ∷ t ≡ s ++ (93 ∷ u)
    → (v : Text) × (s ≡ c ∷ v)
listing_head [] t c u xs h e = absurd (never h)
  where
    first_not_empty : (s t : Text) → BeginsElement s → s ++ t ≡ [] → ⊥
    first_not_empty [] t h e = h
    first_not_empty (c ∷ s) t h e = absurd cc

    empty_listing : {s : Text} {xs : List Element} → IsListing s xs → s ≡ [] → ⊥
    empty_listing (first_hyphen h) e = absurd cc
    empty_listing (first_element {s = s} {t = t} h k) e = first_not_empty s t (element_begins h) e

    never : IsListing [] xs → ⊥
    never h = empty_listing h refl
listing_head (d ∷ s) t c u xs h e = let same : d ≡ c = cc in (s, ap (λ x. x ∷ s) same)

class_sound : (t : Text) (r : CharSet × Text) → class_at t ≡ Some r
    → Front (λ s set. IsCharSet (91 ∷ s) set) t r
class_sound [] r e = absurd cc
class_sound (c ∷ t) r e =
    elim (cases_Bool (c == 94)) [
      | inl h ↦
          using (map_some (λ (p : List Element × Text). (CharSet.class true p.0, p.1))
          (listing_at (suc (length t)) t) r (rw h at e)) (λ (q, f, g).
          using (listing_sound (suc (length t)) t q f) (λ (s, k, l). (
            94 ∷ (s ++ (93 ∷ [])),
            head c 94 t h ∙ ap (λ u. 94 ∷ u) (k ∙ sym (append_assoc s (93 ∷ []) q.1))
                ∙ ap (λ (p : CharSet × Text). (94 ∷ (s ++ (93 ∷ []))) ++ p.1) g,
            subst
                (λ (p : CharSet × Text). IsCharSet (91 ∷ 94 ∷ (s ++ (93 ∷ []))) p.0) g (brackets (negated l)),
          )))
      | inr h ↦
          using (map_some (λ (p : List Element × Text). (CharSet.class false p.0, p.1))
          (listing_at (suc (length (c ∷ t))) (c ∷ t)) r (rw h at e)) (λ (q, f, g).
          using (listing_sound (suc (length (c ∷ t))) (c ∷ t) q f) (λ (s, k, l).
          using (listing_head s t c q.1 q.0 l k) (λ (v, m).
          let differ : c ≡ 94 → ⊥ = λ i. let o = eq-eqb c 94 i in absurd (cc (o, h)) in
          let whole : IsListing (c ∷ v) q.0 = subst (λ u. IsListing u q.0) m l in (
            c ∷ (v ++ (93 ∷ [])),
            k ∙ ap (λ u. u ++ (93 ∷ q.1)) m
                ∙ ap (λ u. c ∷ u) (sym (append_assoc v (93 ∷ []) q.1))
                ∙ ap (λ (p : CharSet × Text). (c ∷ (v ++ (93 ∷ []))) ++ p.1) g,
            subst
                (λ (p : CharSet × Text). IsCharSet (91 ∷ c ∷ (v ++ (93 ∷ []))) p.0) g
                (brackets (listed differ whole)),
          ))))
    ]

escape_set_sound : (t : Text) (r : CharSet × Text) → escape_set_at t ≡ Some r → Front IsCharSet (92 ∷ t) r
escape_set_sound [] r e = absurd cc
escape_set_sound (d ∷ t) r e =
    elim (cases_Bool (d == 112)) [
      | inl h ↦
          using (map_some (λ (q : List GeneralCategory × Text). (CharSet.category false q.0, q.1))
          (category_at t) r (rw h at e)) (λ (a, f, g).
          using (category_sound t a f) (λ (s, k, l). (
            92 ∷ 112 ∷ 123 ∷ (s ++ (125 ∷ [])),
            ap (λ u. 92 ∷ u) (head d 112 t h
                ∙ ap (λ u. 112 ∷ u) (k ∙ ap (λ (q : CharSet × Text). 123 ∷ ((s ++ (125 ∷ [])) ++ q.1)) g)),
            subst
                (λ (q : CharSet × Text). IsCharSet (92 ∷ 112 ∷ 123 ∷ (s ++ (125 ∷ []))) q.0) g
                (property (inside l)),
          )))
      | inr h ↦ other (rw h at e)
    ]
  where
    other : (if d == 80 then option_map
        (λ (q : List GeneralCategory × Text). (CharSet.category true q.0, q.1)) (category_at t)
        else option_map
        (λ (q : ℕ × Text). (CharSet.only q.0, q.1)) (single_at (d ∷ t))) ≡ Some r
        → Front IsCharSet (92 ∷ d ∷ t) r
    other e =
        elim (cases_Bool (d == 80)) [
          | inl h ↦
              using (map_some (λ (q : List GeneralCategory × Text). (CharSet.category true q.0, q.1))
              (category_at t) r (rw h at e)) (λ (a, f, g).
              using (category_sound t a f) (λ (s, k, l). (
                92 ∷ 80 ∷ 123 ∷ (s ++ (125 ∷ [])),
                ap (λ u. 92 ∷ u) (head d 80 t h
                    ∙ ap (λ u. 80 ∷ u) (k ∙ ap (λ (q : CharSet × Text). 123 ∷ ((s ++ (125 ∷ [])) ++ q.1)) g)),
                subst (λ (q : CharSet × Text). IsCharSet (92 ∷ 80 ∷ 123 ∷ (s ++ (125 ∷ []))) q.0) g
                    (property (outside l)),
              )))
          | inr h ↦
              using (map_some (λ (q : ℕ × Text). (CharSet.only q.0, q.1)) (single_at (d ∷ t)) r (rw h at e))
              (λ (a, f, g).
              using (single_sound (d ∷ t) a f) (λ (s, k, l). (
                92 ∷ s,
                ap (λ v. 92 ∷ v) (k ∙ ap (λ (q : CharSet × Text). s ++ q.1) g),
                subst
                    (λ (q : CharSet × Text). IsCharSet (92 ∷ s) q.0) g (escape l),
              )))
        ]

pub set_sound : (t : Text) (r : CharSet × Text) → set_at t ≡ Some r → Front IsCharSet t r
set_sound [] r e = absurd cc
set_sound (c ∷ t) r e =
    elim (cases_Bool (c == 46)) [
      | inl h ↦
          let f = rw h at e in
          let same : (CharSet.dot, t) ≡ r = cc f in (
            46 ∷ [],
            head c 46 t h ∙ ap (λ (q : CharSet × Text). 46 ∷ q.1) same,
            subst
                (λ (q : CharSet × Text). IsCharSet (46 ∷ []) q.0) same any,
          )
      | inr h ↦ let f = rw h at e in elim (cases_Bool (c == 92)) [
        | inl i ↦ using (escape_set_sound t r (rw i at f)) (λ (s, k, l). (s, head c 92 t i ∙ k, l))
        | inr i ↦ let g = rw i at f in elim (cases_Bool (c == 91)) [
          | inl j ↦ using (class_sound t r (rw j at g))
              (λ (s, k, l). (91 ∷ s, head c 91 t j ∙ ap (λ u. 91 ∷ u) k, l))
          | inr j ↦ let m = rw j at g in elim (cases_Bool (is_normal c)) [
            | inl o ↦
                let p = rw o at m in
                let same : (CharSet.only c, t) ≡ r = cc p in (
                  c ∷ [],
                  ap (λ (q : CharSet × Text). c ∷ q.1) same,
                  subst
                      (λ (q : CharSet × Text). IsCharSet (c ∷ []) q.0) same (normal c o),
                )
            | inr o ↦ let p = rw o at m in absurd (cc p)
          ]
        ]
      ]
    ]
