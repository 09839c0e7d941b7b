-- The first byte of a line that ends a plain text, by the mask of a vector of its bytes.
use Rattle.std.proofs.Common.{◌≡◌, ℕ, zero, suc, ◌+◌, ◌-◌, ◌*◌, ◌/◌, ◌%◌, ◌^◌, ◌<◌, ◌≤◌, Bool, true, false, not}
use Rattle.std.proofs.Common.{◌||◌, cond}
use Rattle.std.proofs.Common.{eqb, ltb, List, [], ◌∷◌, map, length, drop, bit_or, refl, sym, ap, ap₂}
use Rattle.std.proofs.Common.{◌∙◌, arith, length-drop}
use Rattle.std.proofs.lemmas.Bool.{eq-eqb, ne_eqb}
use Rattle.std.proofs.lemmas.List.{length-map}
use Rattle.std.proofs.lemmas.List.Folds.{prefix_len-append}
use Rattle.std.proofs.lemmas.List.Sums.{prefix_len-le-length}
use Rattle.std.proofs.lemmas.Simd.{chunk-drop, length-chunk, first_set_mask_l, mask_l-mod}
use Rattle.std.proofs.Math.Nat.{pow-succ', div-div-eq-div-mul}
use Rattle.std.proofs.lemmas.List.{drop-drop, drop-map, take_all}
use Rattle.std.specs.List.{prefix_len}
use Rattle.json.specs.Run.{is_stop, is_plain}
use lib.Count.{count_trailing_zeros}
use lib.Lanes.{chunk, mask_l, top, zip2}

-- a lane of a comparison
abbrev pub if_equal : ℕ → ℕ → ℕ
if_equal a b = cond (eqb a b) 255 0

abbrev pub if_below : ℕ → ℕ → ℕ
if_below a b = cond (ltb a b) 255 0

one_lane : (a b c : Bool)
    → top 7 (bit_or (bit_or (cond a 255 0) (cond b 255 0)) (cond c 255 0)) ≡ ((a || b) || c)
one_lane true true true = refl
one_lane true true false = refl
one_lane true false true = refl
one_lane true false false = refl
one_lane false true true = refl
one_lane false true false = refl
one_lane false false true = refl
one_lane false false false = refl

all_lanes : (v : List ℕ)
    → map (top 7) (zip2 bit_or (zip2 bit_or (map (λ x. if_equal x 34) v) (map (λ x. if_equal x 92) v))
    (map (λ x. if_below x 32) v)) ≡ map is_stop v
all_lanes [] = refl
all_lanes (x ∷ v) = ap₂ (λ b bs. b ∷ bs) (one_lane (eqb x 34) (eqb x 92) (ltb x 32)) (all_lanes v)

-- the mask of three comparisons is that of the bytes that end a text
pub stop_mask : (v a b c : List ℕ) → length v ≤ 64 → a ≡ map (λ x. if_equal x 34) v
    → b ≡ map (λ x. if_equal x 92) v → c ≡ map (λ x. if_below x 32) v
    → mask_l (map (top 7) (zip2 bit_or (zip2 bit_or a b) c)) % 2 ^ 64 ≡ mask_l (map is_stop v)
stop_mask v a b c short ea eb ec =
    ap (λ l. mask_l (map (top 7) l) % 2 ^ 64) (ap₂ (λ x y. zip2 bit_or x y)
    (ap₂ (λ x y. zip2 bit_or x y) ea eb) ec)
    ∙ ap (λ l. mask_l l % 2 ^ 64) (all_lanes v)
    ∙ mask_l-mod (map is_stop v) 64 (omega (arith, length-map v is_stop))

-- how many bytes are plain, by those of a vector and those behind it
by_chunk : (line : List ℕ) (at count : ℕ) → at + count ≤ length line
    → prefix_len is_plain (drop at line) ≡ cond (eqb (prefix_len is_plain (chunk at count line)) count)
    (count + prefix_len is_plain (drop (at + count) line)) (prefix_len is_plain (chunk at count line))
by_chunk line at count room =
    let here = prefix_len is_plain (chunk at count line) in
    let behind = prefix_len is_plain (drop (at + count) line) in
    ap (prefix_len is_plain) (chunk-drop at count line)
    ∙ prefix_len-append is_plain (chunk at count line) (drop (at + count) line)
    ∙ ap (λ k. cond (eqb here k) (k + behind) here) (length-chunk at count line room)

by_mask : (line : List ℕ) (at count : ℕ) → at + count ≤ length line → count ≤ 64
    → cond (eqb (mask_l (map is_stop (chunk at count line))) 0) count
    (count_trailing_zeros 64 (mask_l (map is_stop (chunk at count line))))
    ≡ prefix_len is_plain (chunk at count line)
by_mask line at count room few =
    first_set_mask_l is_stop (chunk at count line) count (length-chunk at count line room) few

-- where the mask is empty, all bytes of the vector are plain
pub none_stops : (line : List ℕ) (at count : ℕ) → at + count ≤ length line → count ≤ 64
    → mask_l (map is_stop (chunk at count line)) ≡ 0
    → prefix_len is_plain (drop at line) ≡ count + prefix_len is_plain (drop (at + count) line)
none_stops line at count room few none =
    let here = prefix_len is_plain (chunk at count line) in
    let zeros = count_trailing_zeros 64 (mask_l (map is_stop (chunk at count line))) in
    let all : here ≡ count = sym (by_mask line at count room few)
    ∙ ap (λ b. cond b count zeros) (eq-eqb _ 0 none) in
    by_chunk line at count room
    ∙ ap (λ b. cond b (count + prefix_len is_plain (drop (at + count) line)) here) (eq-eqb here count all)

one_passes : (b : Bool) (n l m : ℕ) → n ≤ l → cond (not b) (1 + n) 0 ≡ 1 + l → (n ≡ l → m ≡ 0)
    → cond b 1 0 + 2 * m ≡ 0
one_passes true n l m le e h = absurd (omega arith)
one_passes false n l m le e h = omega (arith, h (omega arith))

empty_mask : (xs : List ℕ) → prefix_len is_plain xs ≡ length xs → mask_l (map is_stop xs) ≡ 0
empty_mask [] e = refl
empty_mask (x ∷ xs) e =
    one_passes (is_stop x) (prefix_len is_plain xs) (length xs) (mask_l (map is_stop xs))
    (prefix_len-le-length is_plain xs) (omega (arith, e)) (empty_mask xs)

-- where it is not, its lowest bit tells the first that is not
pub first_stop : (line : List ℕ) (at count : ℕ) → at + count ≤ length line → count ≤ 64
    → 0 < mask_l (map is_stop (chunk at count line))
    → prefix_len is_plain (drop at line)
    ≡ count_trailing_zeros 64 (mask_l (map is_stop (chunk at count line)))
first_stop line at count room few some =
    let mask = mask_l (map is_stop (chunk at count line)) in
    let here = prefix_len is_plain (chunk at count line) in
    let short : eqb here count ≡ false = ne_eqb here count (λ (e : here ≡ count).
    omega (arith, some, empty_mask (chunk at count line) (e ∙ sym (length-chunk at count line room)))) in
    by_chunk line at count room
    ∙ ap (λ b. cond b (count + prefix_len is_plain (drop (at + count) line)) here) short
    ∙ sym (by_mask line at count room few)
    ∙ ap (λ b. cond b count (count_trailing_zeros 64 mask)) (ne_eqb mask 0 (λ (e : mask ≡ 0).
    omega (arith, some, e)))

pub plain_within : (line : List ℕ) (at : ℕ) → at ≤ length line
    → at + prefix_len is_plain (drop at line) ≤ length line
plain_within line at h =
    omega (arith, prefix_len-le-length is_plain (drop at line), length-drop at line)

-- ---- the last vector of a line, of which the front is left out

halved : (b : Bool) (m : ℕ) → (cond b 1 0 + 2 * m) / 2 ≡ m
halved true m = omega arith
halved false m = omega arith

none_left : (n : ℕ) → drop {A = Bool} n [] ≡ []
none_left zero = refl
none_left (suc n) = refl

-- a mask without its lowest bits is that of the others
mask_shifted : (bs : List Bool) (n : ℕ) → mask_l bs / 2 ^ n ≡ mask_l (drop n bs)
mask_shifted bs zero = omega arith
mask_shifted [] (suc n) =
    ap (λ k. 0 / k) (pow-succ' 2 n) ∙ sym (div-div-eq-div-mul 0 2 (2 ^ n)) ∙ mask_shifted [] n
    ∙ ap mask_l (none_left n)
mask_shifted (b ∷ bs) (suc n) =
    ap (λ k. mask_l (b ∷ bs) / k) (pow-succ' 2 n)
    ∙ sym (div-div-eq-div-mul (mask_l (b ∷ bs)) 2 (2 ^ n))
    ∙ ap (λ k. k / 2 ^ n) (halved b (mask_l bs))
    ∙ mask_shifted bs n

module _ (line : List ℕ) (from last n : ℕ) (ends : last + 16 ≡ length line) (place : last + n ≡ from)
    (le : from ≤ length line) where
  left : ℕ
  left = 16 - n

  in_chunk : drop n (chunk last 16 line) ≡ chunk from (16 - n) line
  in_chunk =
      ap (drop n) (take_all 16 (drop last line) (omega (arith, length-drop last line)))
      ∙ drop-drop n last line
      ∙ ap (λ k. drop k line) place
      ∙ sym (take_all (16 - n) (drop from line) (omega (arith, length-drop from line)))

  pub shifted_mask : mask_l (map is_stop (chunk last 16 line)) / 2 ^ n
      ≡ mask_l (map is_stop (chunk from (16 - n) line))
  shifted_mask =
      mask_shifted (map is_stop (chunk last 16 line)) n
      ∙ ap mask_l (drop-map is_stop n (chunk last 16 line) ∙ ap (map is_stop) in_chunk)

-- behind the line no byte is plain
pub none_behind : (line : List ℕ) (at : ℕ) → length line ≤ at → prefix_len is_plain (drop at line) ≡ 0
none_behind line at past = omega (arith, prefix_len-le-length is_plain (drop at line), length-drop at line)
