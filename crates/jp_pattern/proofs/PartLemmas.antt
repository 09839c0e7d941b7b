-- What is left of a set of texts once a character is read.
use Rattle.std.proofs.Common.{◌≡◌, ℕ, suc, ◌-◌, ◌⊎◌, List, [], ◌∷◌, ◌++◌, length, Some, None, refl, ap, sym}
use Rattle.std.proofs.Common.{subst, inl, inr, arith}
use Rattle.std.specs.List.{concat, AllByRecursion}
use Rattle.jp_pattern.specs.Pattern.{Text}
use Rattle.jp_pattern.specs.Language.{Then, Repeated}

module _ (X Y : Text → Type 0) where
  pub then_read : (c : ℕ) (v : Text) → Then X Y (c ∷ v) → Then (λ u. X (c ∷ u)) Y v ⊎ (X [] × Y (c ∷ v))
  then_read c v ([], w, e, x, y) = inr (x, subst Y (sym e) y)
  then_read c v (d ∷ u, w, e, x, y) =
      let head : d ≡ c = cc in
      let tail : v ≡ u ++ w = cc in
      inl (u, w, tail, subst (λ k. X (k ∷ u)) head x, y)

  pub read_then : (c : ℕ) (v : Text) → Then (λ u. X (c ∷ u)) Y v → Then X Y (c ∷ v)
  read_then c v (u, w, e, x, y) = (c ∷ u, w, ap (λ t. c ∷ t) e, x, y)

  pub empty_then : (v : Text) → X [] → Y v → Then X Y v
  empty_then v x y = ([], v, refl, x, y)

  pub then_empty : Then X Y [] → X [] × Y []
  then_empty ([], w, e, x, y) = (x, subst Y (sym e) y)
  then_empty (d ∷ u, w, e, x, y) = absurd cc

module _ (X : Text → Type 0) where
  -- the first part that is not empty has the character; the empty ones before it count as parts of the rest
  parts_read : (c : ℕ) (v : Text) (parts : List Text) → AllByRecursion X parts → c ∷ v ≡ concat parts →
      (u : Text) × (rest : List Text) × X (c ∷ u) × AllByRecursion X rest × (length parts ≡ suc (length rest))
      × (v ≡ u ++ concat rest)
  parts_read c v [] all e = absurd cc
  parts_read c v ([] ∷ parts) all e =
      let r = parts_read c v parts all.1 e in
      (r.0, [] ∷ r.1, r.2, (all.0, r.3), ap suc r.4, r.5)
  parts_read c v ((d ∷ u) ∷ parts) all e =
      let head : d ≡ c = cc in
      let tail : v ≡ u ++ concat parts = cc in
      (u, parts, subst (λ k. X (k ∷ u)) head all.0, all.1, refl, tail)

  -- one part less
  pub repeated_read : (c : ℕ) (v : Text) (least most : ℕ) → Repeated X least (Some (suc most)) (c ∷ v) →
      Then (λ u. X (c ∷ u)) (Repeated X (least - 1) (Some most)) v
  repeated_read c v least most (parts, all, low, high, e) =
      let r = parts_read c v parts all e in
      (r.0, concat r.1, r.5, r.2, (r.1, r.3, omega (arith, r.4), omega (arith, r.4), refl))

  pub read_repeated : (c : ℕ) (v : Text) (least most : ℕ) →
      Then (λ u. X (c ∷ u)) (Repeated X (least - 1) (Some most)) v
      → Repeated X least (Some (suc most)) (c ∷ v)
  read_repeated c v least most (u, w, e, x, (parts, all, low, high, joins)) =
      ((c ∷ u) ∷ parts, (x, all), omega arith, omega arith, cc)

  pub repeated_read_on : (c : ℕ) (v : Text) (least : ℕ) → Repeated X least None (c ∷ v) →
      Then (λ u. X (c ∷ u)) (Repeated X (least - 1) None) v
  repeated_read_on c v least (parts, all, low, high, e) =
      let r = parts_read c v parts all e in
      (r.0, concat r.1, r.5, r.2, (r.1, r.3, omega (arith, r.4), tt, refl))

  pub read_repeated_on : (c : ℕ) (v : Text) (least : ℕ) →
      Then (λ u. X (c ∷ u)) (Repeated X (least - 1) None) v → Repeated X least None (c ∷ v)
  read_repeated_on c v least (u, w, e, x, (parts, all, low, high, joins)) =
      ((c ∷ u) ∷ parts, (x, all), omega arith, tt, cc)

  pub repeated_none : (c : ℕ) (v : Text) (least : ℕ) → Repeated X least (Some 0) (c ∷ v) → ⊥
  repeated_none c v least (parts, all, low, high, e) =
      let r = parts_read c v parts all e in omega (arith, r.4)
