-- No byte of a number of RFC 8259 (6) is below the space.
use Rattle.std.proofs.Common.{◌≡◌, ℕ, suc, ◌+◌, ◌≤◌, ◌==◌, ◌||◌, Bool, true, false, cond, List, [], ◌∷◌, drop}
use Rattle.std.proofs.Common.{Option, Some, None, option_and_then, ◌⊎◌, inl, inr, refl, sym, subst, arith}
use Rattle.std.proofs.lemmas.Bool.{eqb-true, leb-true, and_parts, or_cases}
use Rattle.std.specs.Char.{is_ascii_digit}
use Rattle.std.specs.List.{prefix_len}
use Rattle.json.specs.Print.{IsNumber}
use Rattle.json.specs.Word.{head, after_digits, after_minus, after_sign, after_whole, after_fraction}
use Rattle.json.specs.Word.{after_exponent, after_number}
use Rattle.jp_output.proofs.FieldBytes.{IsField}

-- what follows a part of a number is a field, where there is such a part
abbrev Then : Option (List ℕ) → Type 0
Then None = ⊥
Then (Some rest) = IsField rest

by_test : (b : Bool) (x y : Option (List ℕ)) (P : Type 0) → (b ≡ true → Then x → P) → (Then y → P)
    → Then (cond b x y) → P
by_test true x y P f g h = f refl h
by_test false x y P f g h = g h

one : (c : ℕ) (t : List ℕ) → 32 ≤ c → (head t == c) ≡ true → IsField (drop 1 t) → IsField t
one c [] high e h = tt
one c (x ∷ xs) high e h = (subst (λ y. 32 ≤ y) (sym (eqb-true x c e)) high, h)

digit_high : (x : ℕ) → is_ascii_digit x ≡ true → 32 ≤ x
digit_high x h = omega (arith, leb-true 48 x (and_parts _ _ h).0)

digits_at : (d : Bool) (x : ℕ) (xs : List ℕ) (n : ℕ) → (d ≡ true → 32 ≤ x)
    → (IsField (drop n xs) → IsField xs) → IsField (drop (cond d (1 + n) 0) (x ∷ xs)) → IsField (x ∷ xs)
digits_at false x xs n high others h = h
digits_at true x xs n high others h =
    let e : 1 + n ≡ suc n = omega arith in
    (high refl, others (subst (λ k. IsField (drop k (x ∷ xs))) e h))

digits : (t : List ℕ) → IsField (drop (prefix_len is_ascii_digit t) t) → IsField t
digits [] h = tt
digits (x ∷ xs) h =
    digits_at (is_ascii_digit x) x xs (prefix_len is_ascii_digit xs) (digit_high x) (digits xs) h

some_digits : (t : List ℕ) → Then (after_digits t) → IsField t
some_digits t = by_test (prefix_len is_ascii_digit t == 0) None _ _ (λ e h. absurd h) (digits t)

either : (a b : ℕ) (t : List ℕ) → 32 ≤ a → 32 ≤ b → ((head t == a) ≡ true) ⊎ ((head t == b) ≡ true)
    → IsField (drop 1 t) → IsField t
either a b t p q (inl e) = one a t p e
either a b t p q (inr e) = one b t q e

skipped : (b : Bool) (t : List ℕ) → (b ≡ true → IsField (drop 1 t) → IsField t)
    → IsField (cond b (drop 1 t) t) → IsField t
skipped true t f h = f refl h
skipped false t f h = h

exponent : (t : List ℕ) → Then (after_exponent t) → IsField t
exponent t =
    let u = drop 1 t in
    by_test ((head t == 101) || (head t == 69)) _ (Some t) _
    (λ e h. either 101 69 t (omega arith) (omega arith) (or_cases _ _ e)
    (skipped _ u (λ s. either 45 43 u (omega arith) (omega arith) (or_cases _ _ s))
    (some_digits (after_sign u) h)))
    (λ h. h)

fraction : (t : List ℕ) → Then (after_fraction t) → IsField t
fraction t = by_test (head t == 46) _ (Some t) _
    (λ e h. one 46 t (omega arith) e (some_digits (drop 1 t) h)) (λ h. h)

whole : (t : List ℕ) → Then (after_whole t) → IsField t
whole t = by_test (head t == 48) (Some (drop 1 t)) _ _ (λ e h. one 48 t (omega arith) e h) (some_digits t)

back : (f : List ℕ → Option (List ℕ)) → ((t : List ℕ) → Then (f t) → IsField t) → (o : Option (List ℕ))
    → Then (option_and_then f o) → Then o
back f p None h = h
back f p (Some t) h = p t h

number : (t : List ℕ) → Then (after_number t) → IsField t
unfolding after_number
number t h =
    skipped (head t == 45) t (one 45 t (omega arith))
    (whole (after_minus t) (back after_fraction fraction _ (back after_exponent exponent _ h)))

pub text_of_a_number : (s : List ℕ) → IsNumber s → IsField s
text_of_a_number s h = number s (subst Then (sym h) tt)
