-- The order of texts by their UTF-8 bytes is that by their scalar values.
use Rattle.std.proofs.Common.{◌≡◌, ℕ, zero, suc, ◌+◌, ◌/◌, ◌%◌, ◌<◌, ◌≤◌, ◌⊎◌, inl, inr, List, [], ◌∷◌, ◌++◌}
use Rattle.std.proofs.Common.{Less, Equal, Greater, nat_cmp, refl, sym, ap, ◌∙◌, subst, arith}
use Rattle.std.proofs.Math.Utf8.{encode}
use Rattle.std.proofs.lemmas.Bool.{cases_lt, cases_order, lt-ltb, le-ltb}
use Rattle.std.proofs.lemmas.Cmp.{nat_list_cmp_total}
use Rattle.std.specs.Cmp.{nat_cmp_is}
use Rattle.std.specs.Cmp.Lexicographic.{slice_cmp}
use Rattle.std.specs.Ordering.{ordering_then, ordering_reverse}
use Rattle.std.specs.Prelude.{encode_utf8_all}
use Rattle.jp_doc.specs.Json.{Text, text_cmp}

-- a first byte that holds what is left of the number after its last digits to the base of 64, and a byte
-- for each of these
abbrev spread : ℕ → ℕ → ℕ → List ℕ
spread zero mark c = (mark + c) ∷ []
spread (suc n) mark c = spread n mark (c / 64) ++ (128 + c % 64) ∷ []

one_byte : (c : ℕ) → c < 128 → encode c ≡ spread 0 0 c
unfolding encode
one_byte c h = rw (lt-ltb c 128 h) (ap (λ n. n ∷ []) {x = c} {y = 0 + c} (omega arith))

two_bytes : (c : ℕ) → 128 ≤ c → c < 2048 → encode c ≡ spread 1 192 c
unfolding encode
two_bytes c h k = rw (le-ltb c 128 h, lt-ltb c 2048 k) refl

three_bytes : (c : ℕ) → 2048 ≤ c → c < 65536 → encode c ≡ spread 2 224 c
unfolding encode
three_bytes c k l =
    let two : c / 4096 ≡ c / 64 / 64 = omega arith in
    rw (le-ltb c 128 (omega arith), le-ltb c 2048 k, lt-ltb c 65536 l, two) refl

four_bytes : (c : ℕ) → 65536 ≤ c → encode c ≡ spread 3 240 c
unfolding encode
four_bytes c l =
    let two : c / 4096 ≡ c / 64 / 64 = omega arith in
    let three : c / 262144 ≡ c / 64 / 64 / 64 = omega arith in
    rw (le-ltb c 128 (omega arith), le-ltb c 2048 (omega arith), le-ltb c 65536 l, two, three) refl

-- the bytes of a scalar value, by how many they are
data Form (c : ℕ) : Type 0 where
  one : c < 128 → encode c ≡ spread 0 0 c → Form c
  two : 128 ≤ c → c < 2048 → encode c ≡ spread 1 192 c → Form c
  three : 2048 ≤ c → c < 65536 → encode c ≡ spread 2 224 c → Form c
  four : 65536 ≤ c → encode c ≡ spread 3 240 c → Form c

form_high : (c : ℕ) → 2048 ≤ c → (c < 65536) ⊎ (65536 ≤ c) → Form c
form_high c h (inl k) = three h k (three_bytes c h k)
form_high c h (inr k) = four k (four_bytes c k)

form_middle : (c : ℕ) → 128 ≤ c → (c < 2048) ⊎ (2048 ≤ c) → Form c
form_middle c h (inl k) = two h k (two_bytes c h k)
form_middle c h (inr k) = form_high c k (cases_lt c 65536)

form_of : (c : ℕ) → (c < 128) ⊎ (128 ≤ c) → Form c
form_of c (inl h) = one h (one_byte c h)
form_of c (inr h) = form_middle c h (cases_lt c 2048)

form : (c : ℕ) → Form c
form c = form_of c (cases_lt c 128)

-- at the first place where they differ, the first list has less
abbrev IsBelow : List ℕ → List ℕ → Type 0
IsBelow [] ys = ⊥
IsBelow (x ∷ xs) [] = ⊥
IsBelow (x ∷ xs) (y ∷ ys) = (x < y) ⊎ ((x ≡ y) × IsBelow xs ys)

less : (x y : ℕ) → x < y → nat_cmp x y ≡ Less
less x y h = sym (nat_cmp_is x y Less h)

equal : (x y : ℕ) → x ≡ y → nat_cmp x y ≡ Equal
equal x y h = sym (nat_cmp_is x y Equal h)

greater : (x y : ℕ) → y < x → nat_cmp x y ≡ Greater
greater x y h = sym (nat_cmp_is x y Greater h)

below_less : (xs ys u v : List ℕ) → IsBelow xs ys → slice_cmp nat_cmp (xs ++ u) (ys ++ v) ≡ Less
below_less [] ys u v h = absurd h
below_less (x ∷ xs) [] u v h = absurd h
below_less (x ∷ xs) (y ∷ ys) u v (inl h) = ap (λ o. ordering_then o (slice_cmp nat_cmp (xs ++ u) (ys ++ v)))
    (less x y h)
below_less (x ∷ xs) (y ∷ ys) u v (inr h) =
    ap (λ o. ordering_then o (slice_cmp nat_cmp (xs ++ u) (ys ++ v))) (equal x y h.0)
    ∙ below_less xs ys u v h.1

-- two numbers by their last digit and those before it, to the base of 64
digits_of : (c d : ℕ) → c < d → (c / 64 ≡ d / 64) ⊎ ((c / 64 < d / 64) ⊎ (d / 64 < c / 64))
    → (c / 64 < d / 64) ⊎ ((c / 64 ≡ d / 64) × (c % 64 < d % 64))
digits_of c d h (inl e) = inr (e, omega arith)
digits_of c d h (inr (inl k)) = inl k
digits_of c d h (inr (inr k)) = absurd (omega arith)

digits : (c d : ℕ) → c < d → (c / 64 < d / 64) ⊎ ((c / 64 ≡ d / 64) × (c % 64 < d % 64))
digits c d h = digits_of c d h (cases_order (c / 64) (d / 64))

below_more : (xs ys u v : List ℕ) → IsBelow xs ys → IsBelow (xs ++ u) (ys ++ v)
below_more [] ys u v h = absurd h
below_more (x ∷ xs) [] u v h = absurd h
below_more (x ∷ xs) (y ∷ ys) u v (inl h) = inl h
below_more (x ∷ xs) (y ∷ ys) u v (inr h) = inr (h.0, below_more xs ys u v h.1)

below_after : (xs u v : List ℕ) → IsBelow u v → IsBelow (xs ++ u) (xs ++ v)
below_after [] u v h = h
below_after (x ∷ xs) u v h = inr (refl, below_after xs u v h)

digit_below : (n mark c d : ℕ) → ((a b : ℕ) → a < b → IsBelow (spread n mark a) (spread n mark b))
    → (c / 64 < d / 64) ⊎ ((c / 64 ≡ d / 64) × (c % 64 < d % 64))
    → IsBelow (spread (suc n) mark c) (spread (suc n) mark d)
digit_below n mark c d before (inl h) =
    below_more (spread n mark (c / 64)) (spread n mark (d / 64)) ((128 + c % 64) ∷ []) ((128 + d % 64) ∷ [])
    (before (c / 64) (d / 64) h)
digit_below n mark c d before (inr h) =
    subst (λ q. IsBelow (spread n mark (c / 64) ++ (128 + c % 64) ∷ []) (spread n mark q ++ (128 + d % 64)
    ∷ [])) h.0
    (below_after (spread n mark (c / 64)) ((128 + c % 64) ∷ []) ((128 + d % 64) ∷ [])
    (inl (omega (arith, h.1))))

spread_below : (n mark c d : ℕ) → c < d → IsBelow (spread n mark c) (spread n mark d)
spread_below zero mark c d h = inl (omega arith)
spread_below (suc n) mark c d h = digit_below n mark c d (spread_below n mark) (digits c d h)

both : (c d : ℕ) (xs ys : List ℕ) → encode c ≡ xs → encode d ≡ ys → IsBelow xs ys
    → IsBelow (encode c) (encode d)
both c d xs ys e f h = rw (e, f) h

forms_below : (c d : ℕ) → c < d → Form c → Form d → IsBelow (encode c) (encode d)
forms_below c d h (one k e) (one l f) = both c d _ _ e f (spread_below 0 0 c d h)
forms_below c d h (one k e) (two l m f) = both c d _ _ e f (inl (omega arith))
forms_below c d h (one k e) (three l m f) = both c d _ _ e f (inl (omega arith))
forms_below c d h (one k e) (four l f) = both c d _ _ e f (inl (omega arith))
forms_below c d h (two j k e) (one l f) = absurd (omega arith)
forms_below c d h (two j k e) (two l m f) = both c d _ _ e f (spread_below 1 192 c d h)
forms_below c d h (two j k e) (three l m f) = both c d _ _ e f (inl (omega arith))
forms_below c d h (two j k e) (four l f) = both c d _ _ e f (inl (omega arith))
forms_below c d h (three j k e) (one l f) = absurd (omega arith)
forms_below c d h (three j k e) (two l m f) = absurd (omega arith)
forms_below c d h (three j k e) (three l m f) = both c d _ _ e f (spread_below 2 224 c d h)
forms_below c d h (three j k e) (four l f) = both c d _ _ e f (inl (omega arith))
forms_below c d h (four j e) (one l f) = absurd (omega arith)
forms_below c d h (four j e) (two l m f) = absurd (omega arith)
forms_below c d h (four j e) (three l m f) = absurd (omega arith)
forms_below c d h (four j e) (four l f) = both c d _ _ e f (spread_below 3 240 c d h)

encode_below : (c d : ℕ) → c < d → IsBelow (encode c) (encode d)
encode_below c d h = forms_below c d h (form c) (form d)

same_front : (xs u v : List ℕ) → slice_cmp nat_cmp (xs ++ u) (xs ++ v) ≡ slice_cmp nat_cmp u v
same_front [] u v = refl
same_front (x ∷ xs) u v = ap (λ o. ordering_then o (slice_cmp nat_cmp (xs ++ u) (xs ++ v))) (equal x x refl)
    ∙ same_front xs u v

has_bytes : (c : ℕ) (u : List ℕ) → Form c → slice_cmp nat_cmp [] (encode c ++ u) ≡ Less
has_bytes c u (one k e) = rw e refl
has_bytes c u (two k l e) = rw e refl
has_bytes c u (three k l e) = rw e refl
has_bytes c u (four k e) = rw e refl

order_from : (c d : ℕ) (cs ds : List ℕ) → slice_cmp nat_cmp (encode_utf8_all cs) (encode_utf8_all ds)
    ≡ slice_cmp nat_cmp cs ds → (c ≡ d) ⊎ ((c < d) ⊎ (d < c))
    → slice_cmp nat_cmp (encode c ++ encode_utf8_all cs) (encode d ++ encode_utf8_all ds)
    ≡ slice_cmp nat_cmp (c ∷ cs) (d ∷ ds)
order_from c d cs ds later (inl e) =
    ap (λ x. slice_cmp nat_cmp (encode c ++ encode_utf8_all cs) (encode x ++ encode_utf8_all ds)) (sym e)
    ∙ same_front (encode c) (encode_utf8_all cs) (encode_utf8_all ds) ∙ later
    ∙ sym (ap (λ o. ordering_then o (slice_cmp nat_cmp cs ds)) (equal c d e))
order_from c d cs ds later (inr (inl h)) =
    below_less (encode c) (encode d) (encode_utf8_all cs) (encode_utf8_all ds) (encode_below c d h)
    ∙ sym (ap (λ o. ordering_then o (slice_cmp nat_cmp cs ds)) (less c d h))
order_from c d cs ds later (inr (inr h)) =
    nat_list_cmp_total.antisymm (encode c ++ encode_utf8_all cs) (encode d ++ encode_utf8_all ds)
    ∙ ap ordering_reverse (below_less (encode d) (encode c) (encode_utf8_all ds) (encode_utf8_all cs)
    (encode_below d c h))
    ∙ sym (ap (λ o. ordering_then o (slice_cmp nat_cmp cs ds)) (greater c d h))

order : (s t : List ℕ) → slice_cmp nat_cmp (encode_utf8_all s) (encode_utf8_all t) ≡ slice_cmp nat_cmp s t
order [] [] = refl
order [] (d ∷ ds) = has_bytes d (encode_utf8_all ds) (form d)
order (c ∷ cs) [] = nat_list_cmp_total.antisymm (encode_utf8_all (c ∷ cs)) []
    ∙ ap ordering_reverse (has_bytes c (encode_utf8_all cs) (form c))
order (c ∷ cs) (d ∷ ds) = order_from c d cs ds (order cs ds) (cases_order c d)

pub text_order : (s t : Text) → text_cmp s t ≡ slice_cmp nat_cmp s t
text_order s t = order s t
