-- The lists of several elements, end to end, where one element is changed: the same list up to order.
use Rattle.std.proofs.Common.{◌≡◌, ◌≢◌, ℕ, zero, suc, List, [], ◌∷◌, ◌++◌, set, refl, sym, ap, subst, ◌∙◌}
use Rattle.std.proofs.Common.{flat_map, IsPermutation, append-nil, append_assoc}
use mathlib.Core.Option.{some, some-ne-none, some-injective}
use lib.ListN.{get_elem?}
use Rattle.std.proofs.lemmas.List.{set_comm}
use Rattle.std.proofs.lemmas.List.Concat.{flat_map-append}
use Rattle.std.proofs.lemmas.List.Sorted.{IsPermutation-refl, IsPermutation-trans, IsPermutation-append_right}
use Rattle.std.proofs.lemmas.List.Sorted.{IsPermutation-append_comm}
use Rattle.atomic_table.proofs.Lists.{set_else}

module _ {B : Type 0} where
  pub same_list : (xs ys : List B) → xs ≡ ys → IsPermutation xs ys
  same_list xs ys e = subst (IsPermutation xs) e (IsPermutation-refl xs)

  -- the last of three lists goes between the other two
  between : (xs ys zs : List B) → IsPermutation ((xs ++ ys) ++ zs) ((xs ++ zs) ++ ys)
  between xs ys zs =
      subst (λ l. IsPermutation l ((xs ++ zs) ++ ys)) (sym (append_assoc xs ys zs))
      (subst (IsPermutation (xs ++ (ys ++ zs))) (sym (append_assoc xs zs ys))
      (IsPermutation-append_right xs (ys ++ zs) (zs ++ ys) (IsPermutation-append_comm ys zs)))

module _ {A B : Type 0} (f : A → List B) where
  pub flat_same : (l : List A) (i : ℕ) (v w : A) → get_elem? l i ≡ some v → f w ≡ f v
      → flat_map f (set l i w) ≡ flat_map f l
  flat_same [] i v w e s = refl
  flat_same (x ∷ xs) zero v w e s = ap (λ y. y ++ flat_map f xs) (s ∙ ap f (sym (some-injective x v e)))
  flat_same (x ∷ xs) (suc i) v w e s = ap (λ y. f x ++ y) (flat_same xs i v w e s)

  -- one element's list grows at its end
  pub flat_grown : (l : List A) (i : ℕ) (v w : A) (more : List B) → get_elem? l i ≡ some v → f w ≡ f v ++ more
      → IsPermutation (flat_map f l ++ more) (flat_map f (set l i w))
  flat_grown [] i v w more e s = absurd (some-ne-none v (sym e))
  flat_grown (x ∷ xs) zero v w more e s =
      let is : f x ++ more ≡ f w = ap (λ u. f u ++ more) (some-injective x v e) ∙ sym s in
      subst (λ y. IsPermutation ((f x ++ flat_map f xs) ++ more) (y ++ flat_map f xs)) is
      (between (f x) (flat_map f xs) more)
  flat_grown (x ∷ xs) (suc i) v w more e s =
      subst (λ y. IsPermutation y (f x ++ flat_map f (set xs i w)))
      (sym (append_assoc (f x) (flat_map f xs) more))
      (IsPermutation-append_right (f x) (flat_map f xs ++ more) (flat_map f (set xs i w))
      (flat_grown xs i v w more e s))

  -- one element's list goes to the end
  pub flat_emptied : (l : List A) (i : ℕ) (v w : A) → get_elem? l i ≡ some v → f w ≡ []
      → IsPermutation (flat_map f l) (flat_map f (set l i w) ++ f v)
  flat_emptied [] i v w e s = absurd (some-ne-none v (sym e))
  flat_emptied (x ∷ xs) zero v w e s =
      subst (λ y. IsPermutation (f x ++ flat_map f xs) ((y ++ flat_map f xs) ++ f v)) (sym s)
      (subst (λ u. IsPermutation (f x ++ flat_map f xs) (flat_map f xs ++ f u)) (some-injective x v e)
      (IsPermutation-append_comm (f x) (flat_map f xs)))
  flat_emptied (x ∷ xs) (suc i) v w e s =
      subst (IsPermutation (f x ++ flat_map f xs)) (sym (append_assoc (f x) (flat_map f (set xs i w)) (f v)))
      (IsPermutation-append_right (f x) (flat_map f xs) (flat_map f (set xs i w) ++ f v)
      (flat_emptied xs i v w e s))

  -- one element takes over another's list
  pub flat_joined : (l : List A) (i j : ℕ) (v w both end : A) → get_elem? l i ≡ some v → j ≢ i
      → get_elem? l j ≡ some w → f both ≡ f v ++ f w → f end ≡ []
      → IsPermutation (flat_map f l) (flat_map f (set (set l i both) j end))
  flat_joined l i j v w both end e apart e' s z =
      let other : i ≢ j = λ h. apart (sym h) in
      subst (λ m. IsPermutation (flat_map f l) (flat_map f m)) (set_comm l j i end both apart)
      (IsPermutation-trans (flat_map f l) (flat_map f (set l j end) ++ f w)
      (flat_map f (set (set l j end) i both)) (flat_emptied l j w end e' z)
      (flat_grown (set l j end) i v both (f w) (set_else l j i end other ∙ e) s))

  -- one empty element is cut in two
  pub flat_dealt : (l : List A) (i : ℕ) (v left right : A) → get_elem? l i ≡ some v → f left ≡ f v
      → f right ≡ [] → flat_map f (set l i left ++ right ∷ []) ≡ flat_map f l
  flat_dealt l i v left right e s z =
      flat_map-append f (set l i left) (right ∷ []) ∙ ap (λ y. flat_map f (set l i left) ++ (y ++ [])) z
      ∙ append-nil (flat_map f (set l i left)) ∙ flat_same l i v left e s

  -- the first element takes over the last one's list
  pub flat_gathered : (v w both : A) (rest : List A) → f both ≡ f v ++ f w
      → IsPermutation (flat_map f (v ∷ (rest ++ w ∷ []))) (flat_map f (both ∷ rest))
  flat_gathered v w both rest s =
      subst (λ y. IsPermutation (f v ++ y) (f both ++ flat_map f rest)) (sym (flat_map-append f rest (w ∷ [])
      ∙ ap (λ y. flat_map f rest ++ y) (append-nil (f w))))
      (subst (λ y. IsPermutation y (f both ++ flat_map f rest)) (append_assoc (f v) (flat_map f rest) (f w))
      (subst (λ y. IsPermutation ((f v ++ flat_map f rest) ++ f w) (y ++ flat_map f rest)) (sym s)
      (between (f v) (flat_map f rest) (f w))))
