-- Whether all bytes of a text stand bare, by the masks of vectors that cover it.
use Rattle.std.proofs.Common.{◌≡◌, ℕ, zero, suc, ◌+◌, ◌*◌, ◌%◌, ◌^◌, ◌≤◌, Bool, true, false, not, cond}
use Rattle.std.proofs.Common.{◌&&◌, ◌||◌, eqb, ltb, List, [], ◌∷◌, map, length, take, drop, bit_or}
use Rattle.std.proofs.Common.{refl, sym, ap, ap₂}
use Rattle.std.proofs.Common.{◌∙◌, arith}
use Rattle.std.proofs.Math.Dec.{eqb-suc-zero}
use Rattle.std.proofs.Math.Seq.{take-add}
use Rattle.std.proofs.lemmas.Bool.{ne_eqb, and_from, and_left, and_right}
use Rattle.std.proofs.lemmas.List.{length-map, take_all, take-append-drop, length-drop}
use Rattle.std.proofs.lemmas.List.Folds.{list_all-append}
use Rattle.std.proofs.lemmas.Nat.{le_or_l, le_or_r}
use Rattle.std.proofs.lemmas.Simd.{mask_l-mod}
use Rattle.std.specs.List.{list_all}
use Rattle.jp_node.specs.Bare.{is_escaped, stands_bare}
use lib.Lanes.{mask_l, top, zip2}

-- a lane of a comparison
abbrev pub if_equal : ℕ → ℕ → ℕ
if_equal a b = cond (eqb a b) 255 0

abbrev pub if_below : ℕ → ℕ → ℕ
if_below a b = cond (ltb a b) 255 0

one_lane : (a b c : Bool)
    → top 7 (bit_or (bit_or (cond a 255 0) (cond b 255 0)) (cond c 255 0)) ≡ ((a || b) || c)
one_lane true true true = refl
one_lane true true false = refl
one_lane true false true = refl
one_lane true false false = refl
one_lane false true true = refl
one_lane false true false = refl
one_lane false false true = refl
one_lane false false false = refl

all_lanes : (q : ℕ) (v : List ℕ)
    → map (top 7) (zip2 bit_or (zip2 bit_or (map (λ x. if_equal x q) v) (map (λ x. if_equal x 92) v))
    (map (λ x. if_below x 32) v)) ≡ map (is_escaped q) v
all_lanes q [] = refl
all_lanes q (x ∷ v) = ap₂ (λ b bs. b ∷ bs) (one_lane (eqb x q) (eqb x 92) (ltb x 32)) (all_lanes q v)

-- the mask of three comparisons is that of the bytes that are escaped
pub escape_mask : (q : ℕ) (v a b c : List ℕ) → length v ≤ 64 → a ≡ map (λ x. if_equal x q) v
    → b ≡ map (λ x. if_equal x 92) v → c ≡ map (λ x. if_below x 32) v
    → mask_l (map (top 7) (zip2 bit_or (zip2 bit_or a b) c)) % 2 ^ 64 ≡ mask_l (map (is_escaped q) v)
escape_mask q v a b c short ea eb ec =
    ap (λ l. mask_l (map (top 7) l) % 2 ^ 64) (ap₂ (λ x y. zip2 bit_or x y)
    (ap₂ (λ x y. zip2 bit_or x y) ea eb) ec)
    ∙ ap (λ l. mask_l l % 2 ^ 64) (all_lanes q v)
    ∙ mask_l-mod (map (is_escaped q) v) 64 (omega (arith, length-map v (is_escaped q)))

-- a mask is empty where all bytes stand bare
one_empty : (b : Bool) (m : ℕ) → eqb (cond b 1 0 + 2 * m) 0 ≡ (not b && eqb m 0)
one_empty true m = ne_eqb (1 + 2 * m) 0 (λ (e : 1 + 2 * m ≡ 0). omega (arith, e))
one_empty false zero = refl
one_empty false (suc m) =
    ne_eqb (0 + 2 * suc m) 0 (λ (e : 0 + 2 * suc m ≡ 0). omega (arith, e)) ∙ sym (eqb-suc-zero m)

pub empty_mask : (q : ℕ) (xs : List ℕ)
    → eqb (mask_l (map (is_escaped q) xs)) 0 ≡ list_all (stands_bare q) xs
empty_mask q [] = refl
empty_mask q (x ∷ xs) = one_empty (is_escaped q x) (mask_l (map (is_escaped q) xs))
    ∙ ap (λ b. stands_bare q x && b) (empty_mask q xs)

-- two parts of a text that cover it
and_assoc : (a b c : Bool) → ((a && b) && c) ≡ (a && (b && c))
and_assoc true b c = refl
and_assoc false b c = refl

both : (a b c : Bool) → (b && c) ≡ c → ((a && b) && (a && c)) ≡ (a && c)
both true b c e = e
both false b c e = refl

module _ (p : ℕ → Bool) where
  of_front : (xs : List ℕ) (n : ℕ) → (list_all p (take n xs) && list_all p xs) ≡ list_all p xs
  of_front xs zero = refl
  of_front [] (suc n) = refl
  of_front (x ∷ xs) (suc n) = both (p x) (list_all p (take n xs)) (list_all p xs) (of_front xs n)

  pub overlapping : (xs : List ℕ) (n m : ℕ) → m ≤ n
      → (list_all p (take n xs) && list_all p (drop m xs)) ≡ list_all p xs
  overlapping xs n zero h = of_front xs n
  overlapping xs zero (suc m) h = absurd (omega arith)
  overlapping [] (suc n) (suc m) h = refl
  overlapping (x ∷ xs) (suc n) (suc m) h =
      and_assoc (p x) (list_all p (take n xs)) (list_all p (drop m xs))
      ∙ ap (λ b. p x && b) (overlapping xs n m (omega arith))

  -- a part in which one does not pass
  pub one_fails : (xs : List ℕ) (at n : ℕ) → list_all p (take n (drop at xs)) ≡ false
      → list_all p xs ≡ false
  one_fails xs at n e =
      ap (list_all p) (sym (take-append-drop at xs)) ∙ list_all-append p (take at xs) (drop at xs)
      ∙ and_right _ _ (ap (list_all p) (sym (take-append-drop n (drop at xs)))
      ∙ list_all-append p (take n (drop at xs)) (drop n (drop at xs)) ∙ and_left _ _ e)

  -- one part more passes
  pub more_pass : (xs : List ℕ) (at n : ℕ) → list_all p (take at xs) ≡ true
      → list_all p (take n (drop at xs)) ≡ true → list_all p (take (at + n) xs) ≡ true
  more_pass xs at n e f =
      ap (list_all p) (take-add at n xs) ∙ list_all-append p (take at xs) (take n (drop at xs))
      ∙ and_from _ _ e f

  -- the front passes, and so all do where the end does
  pub end_decides : (xs : List ℕ) (at last n : ℕ) → last + n ≡ length xs → last ≤ at
      → list_all p (take at xs) ≡ true → list_all p (take n (drop last xs)) ≡ list_all p xs
  end_decides xs at last n e h front =
      ap (list_all p) (take_all n (drop last xs) (omega (arith, length-drop last xs)))
      ∙ ap (λ b. b && list_all p (drop last xs)) (sym front) ∙ overlapping xs at last h

-- two masks are empty where both are
neither_set : (a b : ℕ) → eqb (bit_or a b) 0 ≡ (eqb a 0 && eqb b 0)
neither_set zero zero = refl
neither_set zero (suc b) =
    ne_eqb (bit_or zero (suc b)) 0 (λ (e : bit_or zero (suc b) ≡ 0). omega (arith, e, le_or_r zero (suc b)))
    ∙ sym (eqb-suc-zero b)
neither_set (suc a) b =
    ne_eqb (bit_or (suc a) b) 0 (λ (e : bit_or (suc a) b ≡ 0). omega (arith, e, le_or_l (suc a) b))
    ∙ ap (λ c. c && eqb b 0) (sym (eqb-suc-zero a))

-- two vectors cover a text that is no longer than both: the second ends where the text does
pub two_cover : (q : ℕ) (xs : List ℕ) (n m first last : ℕ) → m + n ≡ length xs → m ≤ n
    → first ≡ mask_l (map (is_escaped q) (take n xs))
    → last ≡ mask_l (map (is_escaped q) (take n (drop m xs)))
    → eqb (bit_or first last) 0 ≡ list_all (stands_bare q) xs
two_cover q xs n m first last e h ef el =
    neither_set first last
    ∙ ap₂ (λ a b. a && b) (ap (λ k. eqb k 0) ef ∙ empty_mask q (take n xs))
    (ap (λ k. eqb k 0) el ∙ empty_mask q (take n (drop m xs))
    ∙ ap (list_all (stands_bare q)) (take_all n (drop m xs) (omega (arith, length-drop m xs))))
    ∙ overlapping (stands_bare q) xs n m h
