-- The pattern that is written out has the same texts, and as many atoms of one character as the unrolled
-- size says.
use Rattle.std.proofs.Common.{◌≡◌, ℕ, zero, suc, ◌+◌, ◌*◌, ◌≤◌, List, [], ◌∷◌, ◌++◌, length, Some, None, refl}
use Rattle.std.proofs.Common.{ap, ap₂, ◌∙◌, inl, inr, arith}
use Rattle.std.specs.List.{concat, AllByRecursion}
use Rattle.jp_pattern.specs.Pattern.{Text, Pattern}
use Rattle.jp_pattern.specs.Language.{Repeated, Member}
use Rattle.jp_pattern.specs.Profile.{HasCounts, size}
use Rattle.jp_pattern.specs.Unrolled.{Unrolled, counted, counted_on, unrolled, Has, letters}

module _ (a : Unrolled) where
  counted_whole : (least most : ℕ) (parts : List Text) (t : Text) → AllByRecursion (Has a) parts
      → least ≤ length parts →
      length parts ≤ most → t ≡ concat parts → Has (counted least most a) t
  counted_whole least zero [] t all low high e = e
  counted_whole least zero (x ∷ parts) t all low high e = absurd (omega arith)
  counted_whole zero (suc most) [] t all low high e = inl e
  counted_whole zero (suc most) (x ∷ parts) t all low high e =
      inr (
        x,
        concat parts,
        e,
        all.0,
        counted_whole zero most parts (concat parts) all.1 (omega arith)
            (omega arith) refl,
      )
  counted_whole (suc least) (suc most) [] t all low high e = absurd (omega arith)
  counted_whole (suc least) (suc most) (x ∷ parts) t all low high e = (
    x,
    concat parts,
    e,
    all.0,
    counted_whole least most parts (concat parts) all.1 (omega arith)
        (omega arith) refl,
  )

  counted_sound : (least most : ℕ) (t : Text) → least ≤ most → Has (counted least most a) t
      → Repeated (Has a) least (Some most) t
  counted_sound least zero t le e = ([], tt, omega arith, omega arith, e)
  counted_sound zero (suc most) t le (inl e) = ([], tt, omega arith, omega arith, e)
  counted_sound zero (suc most) t le (inr (u, v, e, x, y)) =
      let r = counted_sound zero most v (omega arith) y in
      (u ∷ r.0, (x, r.1), omega arith, omega (arith, r.3), e ∙ ap (λ w. u ++ w) r.4)
  counted_sound (suc least) (suc most) t le (u, v, e, x, y) =
      let r = counted_sound least most v (omega arith) y in
      (u ∷ r.0, (x, r.1), omega (arith, r.2), omega (arith, r.3), e ∙ ap (λ w. u ++ w) r.4)

  counted_on_whole : (least : ℕ) (parts : List Text) (t : Text) → AllByRecursion (Has a) parts
      → least ≤ length parts →
      t ≡ concat parts → Has (counted_on least a) t
  counted_on_whole zero [] t all low e = inl e
  counted_on_whole zero (x ∷ parts) t all low e = inr (x ∷ parts, all, omega arith, tt, e)
  counted_on_whole (suc least) [] t all low e = absurd (omega arith)
  counted_on_whole (suc least) (x ∷ parts) t all low e =
      (x, concat parts, e, all.0, counted_on_whole least parts (concat parts) all.1 (omega arith) refl)

  counted_on_sound : (least : ℕ) (t : Text) → Has (counted_on least a) t → Repeated (Has a) least None t
  counted_on_sound zero t (inl e) = ([], tt, omega arith, tt, e)
  counted_on_sound zero t (inr (parts, all, low, high, e)) = (parts, all, omega arith, tt, e)
  counted_on_sound (suc least) t (u, v, e, x, y) =
      let r = counted_on_sound least v y in
      (u ∷ r.0, (x, r.1), omega (arith, r.2), tt, e ∙ ap (λ w. u ++ w) r.4)

  pub letters-counted : (least most : ℕ) → letters (counted least most a) ≡ most * letters a
  letters-counted least zero = omega arith
  letters-counted zero (suc most) = omega (arith, letters-counted zero most)
  letters-counted (suc least) (suc most) = omega (arith, letters-counted least most)

  pub letters-counted_on : (least : ℕ) → letters (counted_on least a) ≡ (least + 1) * letters a
  letters-counted_on zero = omega arith
  letters-counted_on (suc least) = omega (arith, letters-counted_on least)

pub letters-unrolled : (p : Pattern) → letters (unrolled p) ≡ size p
letters-unrolled Pattern.empty = refl
letters-unrolled (Pattern.letter set) = refl
letters-unrolled (Pattern.group p) = letters-unrolled p
letters-unrolled (Pattern.seq p q) = ap₂ (λ m n. m + n) (letters-unrolled p) (letters-unrolled q)
letters-unrolled (Pattern.either p q) = ap₂ (λ m n. m + n) (letters-unrolled p) (letters-unrolled q)
letters-unrolled (Pattern.repeat least None p) = letters-counted_on (unrolled p) least
    ∙ ap (λ n. (least + 1) * n) (letters-unrolled p)
letters-unrolled (Pattern.repeat least (Some most) p) = letters-counted (unrolled p) least most
    ∙ ap (λ n. most * n) (letters-unrolled p)
letters-unrolled (Pattern.plus p) = letters-unrolled p

All-map : (X Y : Text → Type 0) → ((u : Text) → X u → Y u) → (parts : List Text) → AllByRecursion X parts
    → AllByRecursion Y parts
All-map X Y f [] all = tt
All-map X Y f (x ∷ parts) all = (f x all.0, All-map X Y f parts all.1)

pub unrolled_whole : (p : Pattern) (t : Text) → Member p t → Has (unrolled p) t
unrolled_whole Pattern.empty t m = m
unrolled_whole (Pattern.letter set) t m = m
unrolled_whole (Pattern.group p) t m = unrolled_whole p t m
unrolled_whole (Pattern.seq p q) t (u, v, e, x, y) = (u, v, e, unrolled_whole p u x, unrolled_whole q v y)
unrolled_whole (Pattern.either p q) t (inl x) = inl (unrolled_whole p t x)
unrolled_whole (Pattern.either p q) t (inr y) = inr (unrolled_whole q t y)
unrolled_whole (Pattern.repeat least None p) t (parts, all, low, high, e) =
    counted_on_whole (unrolled p) least parts t (All-map _ _ (λ u. unrolled_whole p u) parts all) low e
unrolled_whole (Pattern.repeat least (Some most) p) t (parts, all, low, high, e) =
    counted_whole (unrolled p) least most parts t (All-map _ _ (λ u. unrolled_whole p u) parts all) low high e
unrolled_whole (Pattern.plus p) t (parts, all, low, high, e) =
    (parts, All-map _ _ (λ u. unrolled_whole p u) parts all, low, tt, e)

pub unrolled_sound : (p : Pattern) (t : Text) → HasCounts p → Has (unrolled p) t → Member p t
unrolled_sound Pattern.empty t o m = m
unrolled_sound (Pattern.letter set) t o m = m
unrolled_sound (Pattern.group p) t o m = unrolled_sound p t o m
unrolled_sound (Pattern.seq p q) t o (u, v, e, x, y) =
    (u, v, e, unrolled_sound p u o.0 x, unrolled_sound q v o.1 y)
unrolled_sound (Pattern.either p q) t o (inl x) = inl (unrolled_sound p t o.0 x)
unrolled_sound (Pattern.either p q) t o (inr y) = inr (unrolled_sound q t o.1 y)
unrolled_sound (Pattern.repeat least None p) t o m =
    let r = counted_on_sound (unrolled p) least t m in
    (r.0, All-map _ _ (λ u. unrolled_sound p u o.1) r.0 r.1, r.2, tt, r.4)
unrolled_sound (Pattern.repeat least (Some most) p) t o m =
    let r = counted_sound (unrolled p) least most t o.0.0 m in
    (r.0, All-map _ _ (λ u. unrolled_sound p u o.1) r.0 r.1, r.2, r.3, r.4)
unrolled_sound (Pattern.plus p) t o (parts, all, low, high, e) =
    (parts, All-map _ _ (λ u. unrolled_sound p u o) parts all, low, tt, e)
