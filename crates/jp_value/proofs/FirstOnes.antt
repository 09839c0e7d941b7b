-- The elements of a list, each once.
use Rattle.std.proofs.Common.{◌≡◌, Bool, true, false, not, ◌||◌, ◌&&◌, List, [], ◌∷◌, map}
use Rattle.std.proofs.Common.{length, get_or, cond, Ordering, refl, sym, ap, ap₂, ◌∙◌, arith}
use Rattle.std.specs.Cmp.{IsEquivalence, IsTotalOrder}
use Rattle.std.specs.Ordering.{eq_by_cmp}
use Rattle.std.specs.List.{All, AllPairs, filter, dedup, IsDistinct}
use Rattle.std.specs.List.Sorted.{IsSorted, IsPermutation}
use Rattle.std.specs.Set.{is_member}
use Rattle.std.proofs.lemmas.Bool.{not-true}
use Rattle.std.proofs.lemmas.List.Elements.{filter_passes, All-weaker, All-head, All-tail}
use Rattle.std.proofs.lemmas.List.Elements.{All-from_recursion}
use Rattle.std.proofs.lemmas.List.Folds.{Any-from_list_any, list_any-from_Any}
use Rattle.std.proofs.lemmas.List.Kept.{AllPairs-cons, AllPairs-filter, Any-dedup, Contains-from_dedup}
use Rattle.std.proofs.lemmas.List.Kept.{IsStrictlySortedBy-dedup}
use Rattle.std.proofs.lemmas.List.Sorted.{list_any-IsPermutation}
use Rattle.std.proofs.lemmas.Map.Keys.{IsDistinct-from_sorted, apart_from_distinct, IsDistinct-from_apart}
use Rattle.std.proofs.lemmas.Map.Keys.{IsDistinct-head, IsDistinct-tail}
use Rattle.std.proofs.lemmas.Map.Made.{is_member-filter, length-from_same_keys}
use Rattle.jp_value.specs.Functions.{first_ones}

pub same_truth : (a b : Bool) → (a ≡ true → b ≡ true) → (b ≡ true → a ≡ true) → a ≡ b
same_truth true true f g = refl
same_truth true false f g = sym (f refl)
same_truth false true f g = g refl
same_truth false false f g = refl

pass_all : {X : Type 0} (p : X → Bool) (xs : List X) → All (λ x. p x ≡ true) xs → filter p xs ≡ xs
pass_all p [] h = refl
pass_all p (x ∷ xs) h =
    ap (λ b. cond b (x ∷ filter p xs) (filter p xs)) (All-head (λ y. p y ≡ true) x xs h)
    ∙ ap (λ ys. x ∷ ys) (pass_all p xs (All-tail (λ y. p y ≡ true) x xs h))

module _ {X : Type 0} (E : X → X → Bool) where
  abbrev Apart : X → X → Type 0
  Apart x y = E x y ≡ false

  pub apart_ones : (xs : List X) → AllPairs Apart (first_ones E xs)
  apart_ones [] = λ i j d h k. absurd (omega arith)
  apart_ones (x ∷ xs) =
      let others = first_ones E xs in
      AllPairs-cons Apart x (filter (λ y. not (E x y)) others)
      (All-weaker (λ y. not (E x y) ≡ true) (Apart x) (λ y h. not-true (E x y) h)
      (filter (λ y. not (E x y)) others) (filter_passes (λ y. not (E x y)) others))
      (AllPairs-filter Apart (λ y. not (E x y)) others (apart_ones xs))

  distinct_ones : (xs : List X) → IsDistinct E (first_ones E xs)
  distinct_ones xs = IsDistinct-from_apart E (first_ones E xs) (apart_ones xs)

  already_ones : (xs : List X) → IsDistinct E xs → first_ones E xs ≡ xs
  already_ones [] h = refl
  already_ones (x ∷ xs) h =
      ap (λ ys. x ∷ filter (λ y. not (E x y)) ys) (already_ones xs (IsDistinct-tail E x xs h))
      ∙ ap (λ ys. x ∷ ys) (pass_all (λ y. not (E x y)) xs
      (All-weaker (Apart x) (λ y. not (E x y) ≡ true) (λ y e. ap not e) xs
      (All-from_recursion (Apart x) xs (IsDistinct-head E x xs h))))

  -- taken once more, nothing goes
  pub ones_again : (xs : List X) → first_ones E (first_ones E xs) ≡ first_ones E xs
  ones_again xs = already_ones (first_ones E xs) (distinct_ones xs)

module _ {X : Type 0} {E : X → X → Bool} (laws : IsEquivalence E) where
  or_other : (a b m : Bool) → (a ≡ false → b ≡ true) → (a || (m && b)) ≡ (a || m)
  or_other true b m h = refl
  or_other false b true h = h refl
  or_other false b false h = refl

  not_same : (b : Bool) → b ≡ false → not b ≡ true
  not_same b h = ap not h

  pub member_ones : (q : X) (xs : List X) → is_member E (first_ones E xs) q ≡ is_member E xs q
  member_ones q [] = refl
  member_ones q (x ∷ xs) =
      let others = first_ones E xs in
      ap (λ b. E q x || b) (is_member-filter laws (λ y. not (E x y)) q
      (λ y h. ap not (laws.symm x q ∙ laws.congr q y x h ∙ laws.symm y x)) others)
      ∙ or_other (E q x) (not (E x q)) (is_member E others q)
      (λ h. not_same (E x q) (laws.symm x q ∙ h))
      ∙ ap (λ b. E q x || b) (member_ones q xs)

  member_dedup : (q : X) (xs : List X) → is_member E (dedup E xs) q ≡ is_member E xs q
  member_dedup q xs = same_truth (is_member E (dedup E xs) q) (is_member E xs q)
      (λ h. let (k, y, within, is, same) = Any-from_list_any (E q) (dedup E xs) h in
      let (i, inside, found) = Contains-from_dedup E xs y (k, within, is) in
      list_any-from_Any (E q) xs (i, y, inside, found, same))
      (λ h. let (k, y, within, is, same) = Any-from_list_any (E q) xs h in
      let (i, z, inside, found, like) = Any-dedup laws xs y (k, within, is) in
      list_any-from_Any (E q) (dedup E xs) (i, z, inside, found, laws.congr q y z same ∙ like))

  pub counted_ones : {R : X → X → Ordering} → IsTotalOrder R → ((x y : X) → E x y ≡ eq_by_cmp R x y)
      → (xs ys : List X) → IsPermutation xs ys → IsSorted R ys
      → length (dedup E ys) ≡ length (first_ones E xs)
  counted_ones {R} order ties xs ys moved sorted =
      let ones = dedup E ys in
      let apart = IsDistinct-from_sorted R ones (IsStrictlySortedBy-dedup order ties ys sorted) in
      length-from_same_keys laws ones (first_ones E xs)
      (IsDistinct-from_apart E ones (λ i j d h k. ties (get_or ones i d) (get_or ones j d)
      ∙ apart_from_distinct (eq_by_cmp R) ones i j d apart h k))
      (distinct_ones E xs)
      (λ q. member_dedup q ys ∙ sym (list_any-IsPermutation (E q) xs ys moved) ∙ sym (member_ones q xs))

-- each element once, under a function that keeps what is the same
module _ {X Y : Type 0} (E : X → X → Bool) (F : Y → Y → Bool) (f : X → Y) where
  filter_mapped : (p : X → Bool) (q : Y → Bool) → ((x : X) → p x ≡ q (f x)) → (xs : List X)
      → map f (filter p xs) ≡ filter q (map f xs)
  filter_mapped p q same [] = refl
  filter_mapped p q same (x ∷ xs) =
      elim (p x) as (λ b. map f (cond b (x ∷ filter p xs) (filter p xs))
      ≡ cond b (f x ∷ map f (filter p xs)) (map f (filter p xs))) [ true ↦ refl | false ↦ refl ]
      ∙ ap₂ (λ b ys. cond b (f x ∷ ys) ys) (same x) (filter_mapped p q same xs)

  pub ones_mapped : ((x y : X) → E x y ≡ F (f x) (f y)) → (xs : List X)
      → map f (first_ones E xs) ≡ first_ones F (map f xs)
  ones_mapped same [] = refl
  ones_mapped same (x ∷ xs) =
      ap (λ ys. f x ∷ ys) (filter_mapped (λ y. not (E x y)) (λ y. not (F (f x) y))
      (λ y. ap not (same x y)) (first_ones E xs)
      ∙ ap (filter (λ y. not (F (f x) y))) (ones_mapped same xs))
