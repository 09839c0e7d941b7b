-- Sixteen bytes at a time: what is looked up in tables for each of them, and which of them pass a test.
use Rattle.std.proofs.Common.{◌≡◌, ℕ, ◌+◌, ◌/◌, ◌%◌, ◌^◌, ◌<◌, ◌≤◌, ◌⊎◌, Bool, true, false, not}
use Rattle.std.proofs.Common.{cond, eqb, eqb-true, ltb, List, [], ◌∷◌, map, length, get_or, replicate}
use Rattle.std.proofs.Common.{bit_and, inl, inr, refl, sym, ap, ap₂, ◌∙◌, arith, w8, w64, Fits}
use Rattle.std.proofs.lemmas.Bool.{cases_lt}
use Rattle.std.proofs.lemmas.List.{get_or-map, length-map, ext_get_or, get_or_past}
use Rattle.std.proofs.lemmas.Nat.{and_mask}
use Rattle.std.proofs.lemmas.Nat.Bits.{bit_at-zero, bit_at-trailing_zeros}
use Rattle.std.proofs.lemmas.Simd.{Each1-from_get_or, Each1-get_or, swz_l, SwzOk, SwzOk-from_below}
use Rattle.std.proofs.lemmas.Simd.{length-swz_l, get_or-swz_l_below, zip2_splat, tops_compared}
use Rattle.std.proofs.lemmas.Simd.{bitmask_splat, bit_mask_l, get_or-zip2, length-zip2, get_or-chunk}
use Rattle.std.proofs.lemmas.Simd.{length-chunk}
use Rattle.std.specs.Int.{bit_at, trailing_zeros}
use Rattle.std.specs.Simd.Lanes.{zip2, sel_l, mask_l, top, Each1, chunk}

-- ---- tables of sixteen entries

-- these are sixteen bytes
abbrev pub AreLanes : List ℕ → Type 0
AreLanes v = (length v ≡ 16) × Each1 (Fits w8) v

-- each of them leads to an entry, by a half of it
module _ (v at : List ℕ) (half : ℕ → ℕ) (lanes : AreLanes v) (halves : at ≡ map half v)
    (small : (x : ℕ) → x < 256 → half x < 16) where
  many : length at ≡ 16
  many = ap length halves ∙ length-map v half ∙ lanes.0

  half_at : (i : ℕ) → i < 16 → get_or at i 0 ≡ half (get_or v i 0)
  half_at i lt = ap (λ l. get_or l i 0) halves ∙ get_or-map half v i 0 0 (omega (arith, lanes.0))

  below : (i : ℕ) → i < 16 → get_or at i 0 < 16
  below i lt =
      omega (
        arith,
        half_at i lt,
        small (get_or v i 0)
            (Each1-get_or (Fits w8) v i 0 (omega (arith, lanes.0)) lanes.1).fits,
      )

  pub may_look_up : SwzOk w8 16 16 0 at
  may_look_up =
      SwzOk-from_below w8 16 1 16 0 at refl (omega (arith, many))
      (Each1-from_get_or (λ j. j < 16) at 0 (λ i lt. below i (omega (arith, many))))

  pub looked_up : (table : List ℕ) → swz_l w8 16 table 0 at ≡ map (λ x. get_or table (half x) 0) v
  looked_up table =
      let entry = λ (x : ℕ). get_or table (half x) 0 in
      let long = length-swz_l w8 16 table 0 at ∙ many in
      ext_get_or 0 (swz_l w8 16 table 0 at) (map entry v) (long ∙ sym (length-map v entry ∙ lanes.0)) (λ i lt.
      let within : i < 16 = omega (arith, long) in
      get_or-swz_l_below w8 16 table 0 at i (omega (arith, many)) (below i within)
      ∙ ap (λ k. get_or table k 0) (omega (arith, half_at i within))
      ∙ sym (get_or-map entry v i 0 0 (omega (arith, lanes.0))))

same_map : (f g : ℕ → ℕ) → ((x : ℕ) → f x ≡ g x) → (v : List ℕ) → map f v ≡ map g v
same_map f g same [] = refl
same_map f g same (x ∷ v) = ap₂ (λ y ys. y ∷ ys) (same x) (same_map f g same v)

pub low_halves : (v : List ℕ) → length v ≡ 16 → zip2 bit_and v (replicate 16 15) ≡ map (λ x. x % 16) v
low_halves v long =
    zip2_splat bit_and v 16 15 long ∙ same_map (λ x. bit_and x 15) (λ x. x % 16) (λ x. and_mask x 4) v

pub high_halves : (v : List ℕ) → length v ≡ 16 →
    zip2 (λ a b. a / 2 ^ b) v (replicate 16 4) ≡ map (λ x. x / 16) v
high_halves v long = zip2_splat (λ a b. a / 2 ^ b) v 16 4 long

-- ---- the least of three vectors, and where it is not 0

abbrev least : ℕ → ℕ → ℕ
least a b = cond (ltb a b) a b

-- what `simd_min` gives
abbrev pub least_lanes : List ℕ → List ℕ → List ℕ
least_lanes xs ys = sel_l (map (top 7) (zip2 (λ a b. cond (ltb a b) 255 0) xs ys)) xs ys

chosen : (xs ys : List ℕ) → sel_l (zip2 ltb xs ys) xs ys ≡ zip2 least xs ys
chosen [] ys = refl
chosen (x ∷ xs) [] = refl
chosen (x ∷ xs) (y ∷ ys) = ap (λ l. least x y ∷ l) (chosen xs ys)

are_least : (xs ys : List ℕ) → least_lanes xs ys ≡ zip2 least xs ys
are_least xs ys = ap (λ ms. sel_l ms xs ys) (tops_compared w8 ltb xs ys) ∙ chosen xs ys

least_zero : (a b : ℕ) → least a b ≡ 0 → (a ≡ 0) ⊎ (b ≡ 0)
least_zero a b = go (ltb a b)
  where
    go : (t : Bool) → cond t a b ≡ 0 → (a ≡ 0) ⊎ (b ≡ 0)
    go true e = inl e
    go false e = inr e

abbrev is_some : ℕ → Bool
is_some x = not (eqb x 0)

-- bit k is set where lane k is not 0
abbrev pub bits_of_lanes : List ℕ → ℕ
bits_of_lanes v = mask_l (map (top 7) (zip2 (λ a b. cond (not (eqb a b)) 255 0) v (replicate 16 0))) % 2 ^ 64

module _ (xs ys zs : List ℕ) (first : length xs ≡ 16) (second : length ys ≡ 16) (third : length zs ≡ 16) where
  abbrev all : List ℕ
  all = zip2 least (zip2 least xs ys) zs

  pairs : length (zip2 least xs ys) ≡ 16
  pairs = length-zip2 least xs ys (first ∙ sym second) ∙ first

  triples : length all ≡ 16
  triples = length-zip2 least (zip2 least xs ys) zs (pairs ∙ sym third) ∙ pairs

  abbrev found : ℕ
  found = bits_of_lanes (least_lanes (least_lanes xs ys) zs)

  bit_found : (k : ℕ) → bit_at found k ≡ cond (get_or (map is_some all) k false) 1 0
  bit_found k =
      ap (λ m. bit_at m k)
      (ap bits_of_lanes (are_least (least_lanes xs ys) zs ∙ ap (λ v. zip2 least v zs) (are_least xs ys))
      ∙ bitmask_splat w8 (λ a b. not (eqb a b)) all 16 0 triples (omega arith))
      ∙ bit_mask_l (map is_some all) k

  pub none_beyond : (k : ℕ) → 16 ≤ k → bit_at found k ≡ 0
  none_beyond k le =
      let past : length (map is_some all) ≤ k = omega (arith, length-map all is_some, triples) in
      bit_found k ∙ ap (λ b. cond b 1 0) (get_or_past (map is_some all) k false past)

  unset : (x : ℕ) → cond {A = ℕ} (is_some x) 1 0 ≡ 0 → x ≡ 0
  unset x = go (eqb x 0) refl
    where
      go : (t : Bool) → eqb x 0 ≡ t → cond {A = ℕ} (not t) 1 0 ≡ 0 → x ≡ 0
      go true is e = eqb-true x 0 is
      go false is e = absurd (omega (arith, e))

  least_at : (k : ℕ) → k < 16 →
      get_or all k 0 ≡ least (least (get_or xs k 0) (get_or ys k 0)) (get_or zs k 0)
  least_at k lt =
      get_or-zip2 least (zip2 least xs ys) zs k 0 0 0 (omega (arith, pairs)) (omega (arith, third))
      ∙ ap (λ x. least x (get_or zs k 0))
      (get_or-zip2 least xs ys k 0 0 0 (omega (arith, first)) (omega (arith, second)))

  pub one_is_none : (k : ℕ) → k < 16 → bit_at found k ≡ 0 →
      (get_or xs k 0 ≡ 0) ⊎ ((get_or ys k 0 ≡ 0) ⊎ (get_or zs k 0 ≡ 0))
  one_is_none k lt e =
      let x = get_or xs k 0 in
      let y = get_or ys k 0 in
      let z = get_or zs k 0 in
      let at : get_or (map is_some all) k false ≡ is_some (get_or all k 0) =
      get_or-map is_some all k 0 false (omega (arith, triples)) in
      let none : get_or all k 0 ≡ 0 =
      unset (get_or all k 0) (ap (λ b. cond b 1 0) (sym at) ∙ sym (bit_found k) ∙ e) in
      elim (least_zero (least x y) z (sym (least_at k lt) ∙ none)) [
        | inl both ↦ elim (least_zero x y both) [ inl of_x ↦ inl of_x | inr of_y ↦ inr (inl of_y) ]
        | inr of_z ↦ inr (inr of_z)
      ]

-- where no bit is set, each lane is 0
pub no_lane : (v : List ℕ) → length v ≡ 16 → bits_of_lanes v ≡ 0 → (k : ℕ) → k < 16 → get_or v k 0 ≡ 0
no_lane v len none k lt =
    let bits : bit_at (bits_of_lanes v) k ≡ cond (get_or (map is_some v) k false) 1 0 =
    ap (λ m. bit_at m k) (bitmask_splat w8 (λ a b. not (eqb a b)) v 16 0 len (omega arith))
    ∙ bit_mask_l (map is_some v) k in
    let at : get_or (map is_some v) k false ≡ is_some (get_or v k 0) =
    get_or-map is_some v k 0 false (omega (arith, len)) in
    go (get_or v k 0) (eqb (get_or v k 0) 0) refl
    (ap (λ b. cond b 1 0) (sym at) ∙ sym bits ∙ ap (λ m. bit_at m k) none ∙ bit_at-zero k)
  where
    go : (x : ℕ) (t : Bool) → eqb x 0 ≡ t → cond {A = ℕ} (not t) 1 0 ≡ 0 → x ≡ 0
    go x true is e = eqb-true x 0 is
    go x false is e = absurd (omega (arith, e))

-- ---- the vector that begins at a place of a text, looked up

module _ (f : ℕ → ℕ) (v bytes : List ℕ) (from : ℕ) (looked : v ≡ map f (chunk from 16 bytes))
    (room : from + 16 ≤ length bytes) where
  pub length_looked_up : length v ≡ 16
  length_looked_up =
      ap length looked ∙ length-map (chunk from 16 bytes) f ∙ length-chunk from 16 bytes room

  -- lane k was looked up by the byte at this place
  pub looked_up_at : (k place : ℕ) → k < 16 → from + k ≡ place → get_or v k 0 ≡ 0 →
      f (get_or bytes place 0) ≡ 0
  looked_up_at k place lt at none =
      ap f (ap (λ i. get_or bytes i 0) (sym at) ∙ sym (get_or-chunk from 16 bytes k 0 lt))
      ∙ sym (get_or-map f (chunk from 16 bytes) k 0 0 (omega (arith, length-chunk from 16 bytes room)))
      ∙ ap (λ l. get_or l k 0) (sym looked) ∙ none

-- ---- the lowest bit

-- of a number that has none from the sixteenth on
pub lowest_within : (n : ℕ) → 0 < n → n < 2 ^ 64 → ((k : ℕ) → 16 ≤ k → bit_at n k ≡ 0) →
    trailing_zeros w64 n < 16
lowest_within n some fits none =
    let lowest = trailing_zeros w64 n in
    elim (cases_lt lowest 16) [
      | inl lt ↦ lt
      | inr le ↦ absurd (omega (arith, none lowest le, (bit_at-trailing_zeros w64 n some fits).1))
    ]
