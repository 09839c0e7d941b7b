-- Sums over a list of which one element is changed, and a single element that has all parts.
use Rattle.std.proofs.Common.{◌≡◌, ℕ, zero, suc, ◌+◌, ◌<◌, ◌≤◌, List, [], ◌∷◌, ◌++◌, Some, slice_get, set}
use Rattle.std.proofs.Common.{get_or, refl, sym, ap, subst, ◌∙◌, ⊎_elim, arith, All, Contains, sum_by}
use Rattle.std.proofs.Common.{flat_map, append-nil}
use mathlib.Core.Option.{some, some-ne-none, some-injective}
use lib.ListN.{get_elem?}
use Rattle.std.specs.List.{range_with_len}
use Rattle.std.proofs.lemmas.List.Elements.{Contains-get_or, Contains-append_left, Contains-append_right}
use Rattle.std.proofs.lemmas.List.Elements.{Contains-append_cases, All-contains, All-head, All-tail}
use Rattle.std.proofs.lemmas.List.FromFn.{length-range_with_len, get_or-range_with_len}
use Rattle.std.proofs.lemmas.List.Sums.{sum_by-cons}
use Rattle.jp_board.specs.Together.{numbers_below}

module _ {A : Type 0} where
  -- the element at a place, in the table's words and in the library's
  pub at_from_get : (l : List A) (i : ℕ) (v : A) → slice_get l i ≡ Some v → get_elem? l i ≡ some v
  at_from_get [] i v e = cc
  at_from_get (x ∷ xs) zero v e = let is : x ≡ v = cc in ap some is
  at_from_get (x ∷ xs) (suc i) v e = at_from_get xs i v e

  pub get_from_at : (l : List A) (i : ℕ) (v : A) → get_elem? l i ≡ some v → slice_get l i ≡ Some v
  get_from_at [] i v e = absurd (some-ne-none v (sym e))
  get_from_at (x ∷ xs) zero v e = ap Some (some-injective x v e)
  get_from_at (x ∷ xs) (suc i) v e = get_from_at xs i v e

  pub get_set : (l : List A) (i : ℕ) (v w : A) → get_elem? l i ≡ some v → slice_get (set l i w) i ≡ Some w
  get_set [] i v w e = absurd (some-ne-none v (sym e))
  get_set (x ∷ xs) zero v w e = refl
  get_set (x ∷ xs) (suc i) v w e = get_set xs i v w e

  pub at_contains : (l : List A) (i : ℕ) (v : A) → get_elem? l i ≡ some v → Contains l v
  at_contains [] i v e = absurd (some-ne-none v (sym e))
  at_contains (x ∷ xs) zero v e = (0, omega arith, some-injective x v e)
  at_contains (x ∷ xs) (suc i) v e = let r = at_contains xs i v e in let lt =
      r.1 in (suc r.0, omega arith, r.2)

  pub at_all : (P : A → Type 0) (l : List A) (i : ℕ) (v : A) → All P l → get_elem? l i ≡ some v → P v
  at_all P l i v h e = All-contains P l v h (at_contains l i v e)

  pub all_of : (P : A → Type 0) (l : List A) → ((x : A) → Contains l x → P x) → All P l
  all_of P l h k d lt = h (get_or l k d) (Contains-get_or l k d lt)

  pub set_contains : (l : List A) (i : ℕ) (v w : A) → get_elem? l i ≡ some v → Contains (set l i w) w
  set_contains [] i v w e = absurd (some-ne-none v (sym e))
  set_contains (x ∷ xs) zero v w e = (0, omega arith, refl)
  set_contains (x ∷ xs) (suc i) v w e = let r = set_contains xs i v w e in let lt =
      r.1 in (suc r.0, omega arith, r.2)

  pub sum_set : (f : A → ℕ) (l : List A) (i : ℕ) (v w : A) → get_elem? l i ≡ some v
      → sum_by f (set l i w) + f v ≡ sum_by f l + f w
  sum_set f [] i v w e = absurd (some-ne-none v (sym e))
  sum_set f (x ∷ xs) zero v w e =
      let is : f x ≡ f v = ap f (some-injective x v e) in
      let a = sum_by-cons f x xs in
      let b = sum_by-cons f w xs in
      ap (λ n. n + f v) b ∙ omega arith ∙ ap (λ n. n + f w) (sym a)
  sum_set f (x ∷ xs) (suc i) v w e =
      let r = sum_set f xs i v w e in
      let a = sum_by-cons f x xs in
      let b = sum_by-cons f x (set xs i w) in
      ap (λ n. n + f v) b ∙ omega arith ∙ ap (λ n. n + f w) (sym a)

  pub sum_le : (f g : A → ℕ) (l : List A) → All (λ v. f v ≤ g v) l → sum_by f l ≤ sum_by g l
  sum_le f g [] h = omega arith
  sum_le f g (x ∷ xs) h =
      let here = All-head (λ v. f v ≤ g v) x xs h in
      let r = sum_le f g xs (All-tail (λ v. f v ≤ g v) x xs h) in
      let a = sum_by-cons f x xs in
      let b = sum_by-cons g x xs in
      omega arith

  pub at_le_sum : (f : A → ℕ) (l : List A) (i : ℕ) (v : A) → get_elem? l i ≡ some v → f v ≤ sum_by f l
  at_le_sum f [] i v e = absurd (some-ne-none v (sym e))
  at_le_sum f (x ∷ xs) zero v e = let is : f x ≡ f v = ap f (some-injective x v e) in let a =
      sum_by-cons f x xs in omega arith
  at_le_sum f (x ∷ xs) (suc i) v e = let r = at_le_sum f xs i v e in let a = sum_by-cons f x xs in omega arith

  -- where the parts add up to 0, a number that is 0 of what has no part adds up to 0
  sum_none : (p f : A → ℕ) (l : List A) → All (λ v. p v ≡ 0 → f v ≡ 0) l → sum_by p l ≡ 0 → sum_by f l ≡ 0
  sum_none p f [] h z = refl
  sum_none p f (x ∷ xs) h z =
      let a = sum_by-cons p x xs in
      let b = sum_by-cons f x xs in
      let here = All-head (λ v. p v ≡ 0 → f v ≡ 0) x xs h (omega arith) in
      let r = sum_none p f xs (All-tail (λ v. p v ≡ 0 → f v ≡ 0) x xs h) (omega arith) in
      b ∙ omega arith

  -- where all parts lie with one element, the sum is the number of that one
  pub sum_alone : (p f : A → ℕ) (l : List A) (i : ℕ) (v : A) → All (λ v. p v ≡ 0 → f v ≡ 0) l
      → get_elem? l i ≡ some v → sum_by p l ≡ p v → sum_by f l ≡ f v
  sum_alone p f [] i v h e t = absurd (some-ne-none v (sym e))
  sum_alone p f (x ∷ xs) zero v h e t =
      let a : p x ≡ p v = ap p (some-injective x v e) in
      let b : f x ≡ f v = ap f (some-injective x v e) in
      let c = sum_by-cons p x xs in
      let d = sum_by-cons f x xs in
      let r = sum_none p f xs (All-tail (λ v. p v ≡ 0 → f v ≡ 0) x xs h) (omega arith) in
      d ∙ omega arith
  sum_alone p f (x ∷ xs) (suc i) v h e t =
      let c = sum_by-cons p x xs in
      let d = sum_by-cons f x xs in
      let le = at_le_sum p xs i v e in
      let here = All-head (λ v. p v ≡ 0 → f v ≡ 0) x xs h (omega arith) in
      let r = sum_alone p f xs i v (All-tail (λ v. p v ≡ 0 → f v ≡ 0) x xs h) e (omega arith) in
      d ∙ omega arith

module _ {A B : Type 0} where
  -- the same for lists in place of numbers
  flat_none : (p : A → ℕ) (f : A → List B) (l : List A) → All (λ v. p v ≡ 0 → f v ≡ []) l → sum_by p l ≡ 0
      → flat_map f l ≡ []
  flat_none p f [] h z = refl
  flat_none p f (x ∷ xs) h z =
      let a = sum_by-cons p x xs in
      let here = All-head (λ v. p v ≡ 0 → f v ≡ []) x xs h (omega arith) in
      ap (λ l. l ++ flat_map f xs) here ∙ flat_none p f xs (All-tail (λ v. p v ≡ 0 → f v ≡ []) x xs h)
      (omega arith)

  pub flat_alone : (p : A → ℕ) (f : A → List B) (l : List A) (i : ℕ) (v : A) → All (λ v. p v ≡ 0 → f v ≡ []) l
      → get_elem? l i ≡ some v → sum_by p l ≡ p v → flat_map f l ≡ f v
  flat_alone p f [] i v h e t = absurd (some-ne-none v (sym e))
  flat_alone p f (x ∷ xs) zero v h e t =
      let a : p x ≡ p v = ap p (some-injective x v e) in
      let c = sum_by-cons p x xs in
      ap (λ l. f x ++ l) (flat_none p f xs (All-tail (λ v. p v ≡ 0 → f v ≡ []) x xs h) (omega arith))
      ∙ append-nil (f x) ∙ ap f (some-injective x v e)
  flat_alone p f (x ∷ xs) (suc i) v h e t =
      let c = sum_by-cons p x xs in
      let le = at_le_sum p xs i v e in
      let here = All-head (λ v. p v ≡ 0 → f v ≡ []) x xs h (omega arith) in
      ap (λ l. l ++ flat_map f xs) here ∙ flat_alone p f xs i v (All-tail (λ v. p v ≡ 0 → f v ≡ []) x xs h) e
      (omega arith)

  -- what one element has, all of them have
  pub flat_contains : (f : A → List B) (l : List A) (i : ℕ) (v : A) (x : B) → get_elem? l i ≡ some v
      → Contains (f v) x → Contains (flat_map f l) x
  flat_contains f [] i v x e h = absurd (some-ne-none v (sym e))
  flat_contains f (y ∷ ys) zero v x e h = Contains-append_left (f y) (flat_map f ys) x
      (subst (λ u. Contains (f u) x) (sym (some-injective y v e)) h)
  flat_contains f (y ∷ ys) (suc i) v x e h = Contains-append_right (f y) (flat_map f ys) x
      (flat_contains f ys i v x e h)

  -- what all elements have, some element has
  pub flat_found : (f : A → List B) (l : List A) (x : B) → Contains (flat_map f l) x → (v : A) × Contains l v
      × Contains (f v) x
  flat_found f [] x h = let lt = h.1 in absurd (omega arith)
  flat_found f (y ∷ ys) x h = ⊎_elim
      (λ here. (y, (0, omega arith, refl), here))
      (λ there. let r = flat_found f ys x there in let lt =
      r.1.1 in (r.0, (suc r.1.0, omega arith, r.1.2), r.2))
      (Contains-append_cases (f y) (flat_map f ys) x h)

  -- where each element has what it has in the one list also in the other, so have all of them
  pub flat_among : (f g : A → List B) (l : List A) → All (λ v. All (Contains (g v)) (f v)) l → (x : B)
      → Contains (flat_map f l) x → Contains (flat_map g l) x
  flat_among f g [] h x c = c
  flat_among f g (y ∷ ys) h x c = ⊎_elim
      (λ here. Contains-append_left (g y) (flat_map g ys) x
      (All-contains (Contains (g y)) (f y) x (All-head (λ v. All (Contains (g v)) (f v)) y ys h) here))
      (λ there. Contains-append_right (g y) (flat_map g ys) x
      (flat_among f g ys (All-tail (λ v. All (Contains (g v)) (f v)) y ys h) x there))
      (Contains-append_cases (f y) (flat_map f ys) x c)

-- a number is below n where it is one of the numbers below n
pub below_from_contains : (n x : ℕ) → Contains (numbers_below n) x → x < n
below_from_contains n x h =
    let lt = h.1 in
    let len = length-range_with_len 0 n in
    let at = get_or-range_with_len 0 n h.0 x (omega arith) in
    let is = h.2 in
    omega arith

pub contains_below : (n x : ℕ) → x < n → Contains (numbers_below n) x
contains_below n x lt = let len = length-range_with_len 0 n in let at = get_or-range_with_len 0 n x x lt in
    (x, omega arith, at ∙ omega arith)

last_number : (a n j : ℕ) → a + n ≡ j → range_with_len a (suc n) ≡ range_with_len a n ++ j ∷ []
last_number a zero j e = let same : a ≡ j = omega arith in ap (λ k. k ∷ []) same
last_number a (suc n) j e = ap (λ l. a ∷ l) (last_number (a + 1) n j (omega arith))

pub numbers_more : (n m k : ℕ) → m ≡ n → k ≡ suc n → numbers_below k ≡ numbers_below m ++ n ∷ []
numbers_more n m k e d = ap numbers_below d ∙ last_number 0 n n (omega arith)
    ∙ ap (λ l. numbers_below l ++ n ∷ []) (sym e)
