-- The first byte that matters, by the mask of a vector of bytes.
use Rattle.std.proofs.Common.{◌≡◌, ℕ, ◌+◌, ◌*◌, ◌%◌, ◌^◌, ◌<◌, ◌≤◌, Bool, true, false, not, ◌||◌, cond}
use Rattle.std.proofs.Common.{eqb, List, [], ◌∷◌, map, length, drop, bit_or, refl, sym, ap, ap₂}
use Rattle.std.proofs.Common.{◌∙◌, arith, length-drop}
use Rattle.std.proofs.lemmas.Bool.{eq-eqb, ne_eqb}
use Rattle.std.proofs.lemmas.List.{length-map}
use Rattle.std.proofs.lemmas.List.Folds.{prefix_len-append}
use Rattle.std.proofs.lemmas.List.Sums.{prefix_len-le-length}
use Rattle.std.proofs.lemmas.Simd.{chunk-drop, length-chunk, first_set_mask_l, mask_l-mod}
use Rattle.jp_documents.specs.inner.Finding.{matters_in_brackets, matters_in_text, run_len}
use lib.Count.{count_trailing_zeros}
use lib.Lanes.{chunk, mask_l, top, zip2}

-- a lane of a comparison
abbrev pub if_equal : ℕ → ℕ → ℕ
if_equal a b = cond (eqb a b) 255 0

-- the bytes of a vector that are equal to this one
abbrev pub equal_to : ℕ → List ℕ → List ℕ
equal_to a v = map (λ x. if_equal x a) v

-- lanes of two comparisons in one, by what their top bits tell
both_lanes : (a b : Bool) → bit_or (cond a 255 0) (cond b 255 0) ≡ cond (a || b) 255 0
both_lanes true true = refl
both_lanes true false = refl
both_lanes false true = refl
both_lanes false false = refl

top_lane : (a : Bool) → top 7 (cond a 255 0) ≡ a
top_lane true = refl
top_lane false = refl

-- a vector whose lanes tell where a test holds
abbrev pub lanes : (ℕ → Bool) → List ℕ → List ℕ
lanes test v = map (λ x. cond (test x) 255 0) v

more_lanes : (test : ℕ → Bool) (a : ℕ) (v : List ℕ)
    → zip2 bit_or (lanes test v) (equal_to a v) ≡ lanes (λ x. test x || eqb x a) v
more_lanes test a [] = refl
more_lanes test a (x ∷ v) = ap₂ (λ b bs. b ∷ bs) (both_lanes (test x) (eqb x a)) (more_lanes test a v)

top_lanes : (test : ℕ → Bool) (v : List ℕ) → map (top 7) (lanes test v) ≡ map test v
top_lanes test [] = refl
top_lanes test (x ∷ v) = ap₂ (λ b bs. b ∷ bs) (top_lane (test x)) (top_lanes test v)

mask_of : (test : ℕ → Bool) (v l : List ℕ) → length v ≤ 64 → l ≡ lanes test v
    → mask_l (map (top 7) l) % 2 ^ 64 ≡ mask_l (map test v)
mask_of test v l short e =
    ap (λ l. mask_l (map (top 7) l) % 2 ^ 64) e ∙ ap (λ l. mask_l l % 2 ^ 64) (top_lanes test v)
    ∙ mask_l-mod (map test v) 64 (omega (arith, length-map v test))

-- one comparison more
joined : (test : ℕ → Bool) (a : ℕ) (v l m : List ℕ) → l ≡ lanes test v → m ≡ equal_to a v
    → zip2 bit_or l m ≡ lanes (λ x. test x || eqb x a) v
joined test a v l m el em = ap₂ (λ x y. zip2 bit_or x y) el em ∙ more_lanes test a v

-- the masks of comparisons are those of the bytes that matter
pub text_bytes : (v a b c : List ℕ) → length v ≤ 64 → a ≡ equal_to 34 v → b ≡ equal_to 92 v
    → c ≡ equal_to 10 v
    → mask_l (map (top 7) (zip2 bit_or (zip2 bit_or a b) c)) % 2 ^ 64 ≡ mask_l (map matters_in_text v)
text_bytes v a b c short ea eb ec =
    mask_of matters_in_text v _ short (joined _ 10 v _ c (joined (λ x. eqb x 34) 92 v a b ea eb) ec)

pub brackets_bytes : (v a b c d e : List ℕ) → length v ≤ 64 → a ≡ equal_to 34 v → b ≡ equal_to 123 v
    → c ≡ equal_to 125 v → d ≡ equal_to 91 v → e ≡ equal_to 93 v
    → mask_l (map (top 7) (zip2 bit_or (zip2 bit_or (zip2 bit_or (zip2 bit_or a b) c) d) e)) % 2 ^ 64
    ≡ mask_l (map matters_in_brackets v)
brackets_bytes v a b c d e short ea eb ec ed ee =
    mask_of matters_in_brackets v _ short
    (joined _ 93 v _ e (joined _ 91 v _ d (joined _ 125 v _ c
    (joined (λ x. eqb x 34) 123 v a b ea eb) ec) ed) ee)

-- how many bytes do not matter, by those of a vector and those behind it
by_chunk : (matters : ℕ → Bool) (bytes : List ℕ) (at count : ℕ) → at + count ≤ length bytes
    → run_len matters (drop at bytes) ≡ cond (eqb (run_len matters (chunk at count bytes)) count)
    (count + run_len matters (drop (at + count) bytes)) (run_len matters (chunk at count bytes))
by_chunk matters bytes at count room =
    let here = run_len matters (chunk at count bytes) in
    let behind = run_len matters (drop (at + count) bytes) in
    ap (run_len matters) (chunk-drop at count bytes)
    ∙ prefix_len-append (λ x. not (matters x)) (chunk at count bytes) (drop (at + count) bytes)
    ∙ ap (λ k. cond (eqb here k) (k + behind) here) (length-chunk at count bytes room)

by_mask : (matters : ℕ → Bool) (bytes : List ℕ) (at count : ℕ) → at + count ≤ length bytes → count ≤ 64
    → cond (eqb (mask_l (map matters (chunk at count bytes))) 0) count
    (count_trailing_zeros 64 (mask_l (map matters (chunk at count bytes))))
    ≡ run_len matters (chunk at count bytes)
by_mask matters bytes at count room few =
    first_set_mask_l matters (chunk at count bytes) count (length-chunk at count bytes room) few

-- where the mask is empty, no byte of the vector matters
pub none_matters : (matters : ℕ → Bool) (bytes : List ℕ) (at count : ℕ) → at + count ≤ length bytes
    → count ≤ 64
    → mask_l (map matters (chunk at count bytes)) ≡ 0
    → run_len matters (drop at bytes) ≡ count + run_len matters (drop (at + count) bytes)
none_matters matters bytes at count room few none =
    let here = run_len matters (chunk at count bytes) in
    let zeros = count_trailing_zeros 64 (mask_l (map matters (chunk at count bytes))) in
    let all : here ≡ count = sym (by_mask matters bytes at count room few)
    ∙ ap (λ b. cond b count zeros) (eq-eqb _ 0 none) in
    by_chunk matters bytes at count room
    ∙ ap (λ b. cond b (count + run_len matters (drop (at + count) bytes)) here) (eq-eqb here count all)

one_passes : (b : Bool) (n l m : ℕ) → n ≤ l → cond (not b) (1 + n) 0 ≡ 1 + l → (n ≡ l → m ≡ 0)
    → cond b 1 0 + 2 * m ≡ 0
one_passes true n l m le e h = absurd (omega arith)
one_passes false n l m le e h = omega (arith, h (omega arith))

empty_mask : (matters : ℕ → Bool) (xs : List ℕ) → run_len matters xs ≡ length xs → mask_l (map matters xs) ≡ 0
empty_mask matters [] e = refl
empty_mask matters (x ∷ xs) e =
    one_passes (matters x) (run_len matters xs) (length xs) (mask_l (map matters xs))
    (prefix_len-le-length (λ x. not (matters x)) xs) (omega (arith, e)) (empty_mask matters xs)

-- where it is not, its lowest bit tells the first that does
pub first_matters : (matters : ℕ → Bool) (bytes : List ℕ) (at count : ℕ) → at + count ≤ length bytes
    → count ≤ 64
    → 0 < mask_l (map matters (chunk at count bytes))
    → run_len matters (drop at bytes) ≡ count_trailing_zeros 64 (mask_l (map matters (chunk at count bytes)))
first_matters matters bytes at count room few some =
    let mask = mask_l (map matters (chunk at count bytes)) in
    let here = run_len matters (chunk at count bytes) in
    let short : eqb here count ≡ false = ne_eqb here count (λ (e : here ≡ count).
    omega (
      arith,
      some,
      empty_mask matters (chunk at count bytes)
          (e ∙ sym (length-chunk at count bytes room)),
    )) in
    by_chunk matters bytes at count room
    ∙ ap (λ b. cond b (count + run_len matters (drop (at + count) bytes)) here) short
    ∙ sym (by_mask matters bytes at count room few)
    ∙ ap (λ b. cond b count (count_trailing_zeros 64 mask)) (ne_eqb mask 0 (λ (e : mask ≡ 0).
    omega (arith, some, e)))

pub run_within : (matters : ℕ → Bool) (bytes : List ℕ) (at : ℕ) → at ≤ length bytes
    → at + run_len matters (drop at bytes) ≤ length bytes
run_within matters bytes at h =
    omega (arith, prefix_len-le-length (λ x. not (matters x)) (drop at bytes), length-drop at bytes)
