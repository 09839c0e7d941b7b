-- Numbers with a fraction and an exponent, by the grammar.
use Rattle.std.proofs.Common.{◌≡◌, ℕ, zero, suc, ◌+◌, ◌-◌, ◌<◌, ◌≤◌, ◌⊎◌, inl, inr, Bool, true, false, not}
use Rattle.std.proofs.Common.{◌&&◌, ◌||◌, ◌==◌, cond, List, [], ◌∷◌, ◌++◌, length, take, drop, get_or, Some}
use Rattle.std.proofs.Common.{option_and_then, refl, sym, ap, ap₂, ◌∙◌, subst, arith, append-nil}
use Rattle.std.proofs.Common.{append_assoc}
use Rattle.std.proofs.Common.{eqb-true, ne_eqb, le-leb, length-drop, true≢false, if◌then◌else◌}
use Rattle.std.proofs.lemmas.Bool.{and_parts, cases_lt}
use Rattle.std.proofs.lemmas.List.{take-append-le, drop-drop, length-take}
use Rattle.std.proofs.Math.Seq.{take-add}
use Rattle.std.specs.Char.{is_ascii_digit}
use Rattle.std.specs.List.{list_all, prefix_len}
use Rattle.std.specs.Prelude.{nat_le, slice_index}
use Rattle.json.specs.Print.{IsNumber}
use Rattle.json.specs.Word.{after_number, head, after_digits, after_sign, after_whole, after_fraction}
use Rattle.json.specs.Word.{after_exponent}
use Rattle.jp_flat_nodes.specs.Digits.{are_few_digits, is_no_e, is_taken}
use Rattle.jp_flat_nodes.specs.Nodes.{piece}
use Rattle.jp_flat_nodes.specs.inner.Reads.{IsDigits, IsFraction, IsExponent, IsUnsigned}
use Rattle.jp_flat_nodes.proofs.Cuts.{byte_then}
use Rattle.jp_flat_nodes.proofs.Digits.{both_true, NoDigit, digits_then, digits_no_e}

-- ---- a fraction

abbrev pub NoPoint : List ℕ → Type 0
NoPoint r = (head r == 46) ≡ false

-- its text: none, or a point and digits
pub record Fraction (f : List ℕ) : Type 0 where
  pub first : (r : List ℕ) → NoDigit r → NoDigit (f ++ r)
  pub passes : (r : List ℕ) → NoDigit r → NoPoint r → after_fraction (f ++ r) ≡ Some r
  pub no_e : list_all is_no_e f ≡ true

no_fraction : Fraction []
no_fraction = record {
  first = λ r h. h;
  passes = λ r h p. ap (λ b. cond b (after_digits (drop 1 r)) (Some r)) p;
  no_e = refl;
}

fraction : (xs : List ℕ) (m : ℕ) → 0 < m → m ≤ prefix_len is_ascii_digit xs → Fraction (46 ∷ take m xs)
fraction xs m some h = record {
  first = λ r n. refl;
  passes = λ r n p. digits_then xs m r some h n;
  no_e = digits_no_e xs m h;
}

one_more : (line : List ℕ) (from end : ℕ) → from < length line → from < end
    → piece line from (end - from) ≡ get_or line from 0 ∷ piece line (from + 1) (end - (from + 1))
one_more line from end inside some =
    let n : end - from ≡ suc (end - (from + 1)) = omega arith in
    ap₂ take n (byte_then line from (get_or line from 0) inside refl)

no_piece : (line : List ℕ) (from end : ℕ) → end ≡ from → piece line from (end - from) ≡ []
no_piece line from end e =
    let n : end - from ≡ 0 = omega arith in
    ap (λ k. take k (drop from line)) n

pub fraction_is : (line : List ℕ) (from end : ℕ) → IsFraction line from end
    → Fraction (piece line from (end - from))
fraction_is line from end (inl e) = subst Fraction (sym (no_piece line from end e)) no_fraction
fraction_is line from end (inr p) =
    let rest = piece line (from + 1) (end - (from + 1)) in
    subst Fraction (sym (one_more line from end (omega (arith, p.some, p.inside)) (omega (arith, p.some))
    ∙ ap (λ x. x ∷ rest) p.point))
    (fraction (drop (from + 1) line) (end - (from + 1)) (omega (arith, p.some)) p.digits)

-- ---- an exponent

pub record Exponent (x : List ℕ) : Type 0 where
  pub no_digit : NoDigit x
  pub no_point : NoPoint x
  pub passes : after_exponent x ≡ Some []

letter_is : (c : ℕ) → ((c == 101) || (c == 69)) ≡ true → (c ≡ 101) ⊎ (c ≡ 69)
letter_is c h = go (c == 101) refl
  where
    go : (b : Bool) → (c == 101) ≡ b → (c ≡ 101) ⊎ (c ≡ 69)
    go true e = inl (eqb-true c 101 e)
    go false e = inr (eqb-true c 69 (ap (λ b. b || (c == 69)) (sym e) ∙ h))

exponent : (c : ℕ) (r : List ℕ) → ((c == 101) || (c == 69)) ≡ true → after_digits (after_sign r) ≡ Some []
    → Exponent (c ∷ r)
exponent c r letter digits = go (letter_is c letter)
  where
    go : (c ≡ 101) ⊎ (c ≡ 69) → Exponent (c ∷ r)
    go (inl e) = subst (λ k. Exponent (k ∷ r)) (sym e)
        (record { no_digit = refl; no_point = refl; passes = digits })
    go (inr e) = subst (λ k. Exponent (k ∷ r)) (sym e)
        (record { no_digit = refl; no_point = refl; passes = digits })

front_is : (xs : List ℕ) (n : ℕ) → 0 < n → 0 < length xs → head (take n xs) ≡ get_or xs 0 0
front_is xs zero h some = absurd (omega arith)
front_is [] (suc n) h some = absurd (omega arith)
front_is (x ∷ xs) (suc n) h some = refl

behind : (line : List ℕ) (from end : ℕ) → from < length line
    → get_or (drop from line) 0 0 ≡ get_or line from 0
behind line from end inside = ap (λ l. get_or l 0 0) (byte_then line from (get_or line from 0) inside refl)

-- the digits behind a sign
signed : (line : List ℕ) (from end : ℕ) (b : Bool) → from < length line → from + cond b 1 0 < end
    → end ≤ length line → end - (from + cond b 1 0) ≤ prefix_len is_ascii_digit (drop
    (from + cond b 1 0) line)
    → after_digits (cond b (drop 1 (piece line from (end - from))) (piece line from (end - from))) ≡ Some []
signed line from end true inside some within digits =
    let rest = drop (from + 1) line in
    ap (λ l. after_digits (drop 1 l)) (one_more line from end inside (omega arith))
    ∙ ap after_digits (sym (append-nil (take (end - (from + 1)) rest)))
    ∙ digits_then rest (end - (from + 1)) [] (omega arith) digits refl
signed line from end false inside some within digits =
    let zero_more : from + 0 ≡ from = omega arith in
    let here = subst (λ k. end - k ≤ prefix_len is_ascii_digit (drop k line)) zero_more digits in
    ap after_digits (sym (append-nil (piece line from (end - from))))
    ∙ digits_then (drop from line) (end - from) [] (omega arith) here refl

pub exponent_is : (line : List ℕ) (from end : ℕ) → IsExponent line from end
    → Exponent (piece line from (end - from))
exponent_is line from end (inl e) =
    subst Exponent (sym (no_piece line from end e))
    (record { no_digit = refl; no_point = refl; passes = refl })
exponent_is line from end (inr p) =
    let next = from + 1 in
    let rest = piece line next (end - next) in
    let sign = (get_or line next 0 == 45) || (get_or line next 0 == 43) in
    let inside : next < length line = omega (arith, p.some, p.inside) in
    let first : head rest ≡ get_or line next 0 = front_is (drop next line) (end - next) (omega
    (arith, p.some))
    (omega (arith, length-drop next line)) ∙ behind line next end inside in
    let digits : after_digits (after_sign rest) ≡ Some [] =
    ap (λ k. after_digits (cond ((k == 45) || (k == 43)) (drop 1 rest) rest)) first
    ∙ signed line next end sign inside p.some p.inside p.digits in
    subst Exponent (sym (one_more line from end (omega arith) (omega (arith, p.some))))
    (exponent (get_or line from 0) rest p.letter digits)

-- ---- the whole number

all_taken : (xs : List ℕ) (n : ℕ) → list_all is_no_e xs ≡ true → list_all is_no_e (take n xs) ≡ true
all_taken xs zero h = refl
all_taken [] (suc n) h = refl
all_taken (x ∷ xs) (suc n) h =
    let both = and_parts (is_no_e x) (list_all is_no_e xs) h in
    both_true _ _ both.0 (all_taken xs n both.1)

all_both : (xs ys : List ℕ) → list_all is_no_e xs ≡ true → list_all is_no_e ys ≡ true
    → list_all is_no_e (xs ++ ys) ≡ true
all_both [] ys h k = k
all_both (x ∷ xs) ys h k =
    let both = and_parts (is_no_e x) (list_all is_no_e xs) h in
    both_true _ _ both.0 (all_both xs ys both.1 k)

split_at : (line : List ℕ) (a b c : ℕ) → a ≤ b → b ≤ c → piece line a (c - a) ≡ piece line a
    (b - a) ++ piece line b (c - b)
split_at line a b c h k =
    let sum : c - a ≡ (b - a) + (c - b) = omega arith in
    let place : a + (b - a) ≡ b = omega arith in
    ap (λ n. take n (drop a line)) sum ∙ take-add (b - a) (c - b) (drop a line)
    ∙ ap (λ l. piece line a (b - a) ++ take (c - b) l) (drop-drop (b - a) a line
    ∙ ap (λ i. drop i line) place)

later : (line : List ℕ) (from end : ℕ) → IsFraction line from end → from ≤ end
later line from end (inl e) = omega arith
later line from end (inr p) = omega (arith, p.some)

later_exponent : (line : List ℕ) (from end : ℕ) → IsExponent line from end → from ≤ end
later_exponent line from end (inl e) = omega arith
later_exponent line from end (inr p) = omega (arith, p.some)

few_last : (line : List ℕ) (from end : ℕ) → IsExponent line from end → end - from ≤ 10
few_last line from end (inl e) = omega arith
few_last line from end (inr p) = omega (arith, p.few)

pub written_is : (line : List ℕ) (from whole point end : ℕ) → IsDigits line from whole
    → IsFraction line whole point → IsExponent line point end → end ≤ length line → end - from ≤ 290
    → IsUnsigned line true from end
written_is line from whole point end d f x inside short =
    let w = piece line from (whole - from) in
    let fs = piece line whole (point - whole) in
    let xs = piece line point (end - point) in
    let fraction = fraction_is line whole point f in
    let power = exponent_is line point end x in
    let a = later line whole point f in
    let b = later_exponent line point end x in
    let parts : piece line from (end - from) ≡ w ++ (fs ++ xs) =
    split_at line from whole end (omega (arith, d.ordered)) (omega (arith, a, b))
    ∙ ap (λ l. w ++ l) (split_at line whole point end a b) in
    let front : piece line from (end - from) ≡ (w ++ fs) ++ xs = parts ∙ sym (append_assoc w fs xs) in
    let size : length (w ++ fs) ≡ point - from =
    ap length (sym (split_at line from whole point (omega (arith, d.ordered)) a))
    ∙ length-take (point - from) (drop from line) ∙ omega (arith, length-drop from line, b, inside) in
    record {
      ordered = omega (arith, d.ordered, a, b);
      inside = inside;
      first = d.first;
      grammar = ap (λ l. option_and_then after_exponent (option_and_then after_fraction
          (after_whole l))) parts
          ∙ ap (λ o. option_and_then after_exponent (option_and_then after_fraction o))
          (d.passes (fs ++ xs) (fraction.first xs power.no_digit))
          ∙ ap (option_and_then after_exponent) (fraction.passes xs power.no_digit power.no_point)
          ∙ power.passes;
      few = λ e. absurd (true≢false e);
      short = λ e. short;
      plain = λ e. ap (λ l. list_all is_no_e (take (end - from - 10) l)) front
          ∙ ap (list_all is_no_e) (take-append-le (end - from - 10) (w ++ fs) xs
          (omega (arith, size, few_last line point end x)))
          ∙ all_taken (w ++ fs) (end - from - 10) (all_both w fs d.no_e fraction.no_e);
    }

-- digits alone
pub digits_alone : (line : List ℕ) (from end : ℕ) → IsDigits line from end → IsUnsigned line false from end
digits_alone line from end d =
    let s = piece line from (end - from) in
    record {
      ordered = d.ordered;
      inside = d.inside;
      first = d.first;
      grammar = ap (λ l. option_and_then after_exponent (option_and_then after_fraction (after_whole l)))
          (sym (append-nil s))
          ∙ ap (λ o. option_and_then after_exponent (option_and_then after_fraction o)) (d.passes [] refl);
      few = λ e. d.few;
      short = λ e. absurd (true≢false (sym e));
      plain = λ e. absurd (true≢false (sym e));
    }

-- ---- with its sign

no_minus : (x : ℕ) → is_ascii_digit x ≡ true → (x == 45) ≡ false
no_minus x h = ne_eqb x 45 (λ e. true≢false (sym h ∙ ap is_ascii_digit e))

taken_if : (decimals : Bool) (line : List ℕ) (from end : ℕ) → IsUnsigned line decimals from end
    → is_taken decimals (piece line from (end - from)) ≡ true
taken_if true line from end u =
    let size : length (piece line from (end - from)) ≡ end - from =
    length-take (end - from) (drop from line) ∙ omega (arith, length-drop from line, u.inside) in
    both_true _ _ (ap (λ n. nat_le n 300) size ∙ le-leb (end - from) 300 (omega (arith, u.short refl)))
    (ap (λ n. list_all is_no_e (take (n - 10) (piece line from (end - from)))) size ∙ u.plain refl)
taken_if false line from end u =
    let s = piece line from (end - from) in
    let inside : from < length line = omega (arith, u.ordered, u.inside) in
    let index : slice_index s 0 ≡ get_or line from 0 =
    ap (λ l. get_or l 0 0) (one_more line from end inside u.ordered) in
    ap (λ b. if b then are_few_digits (drop 1 s) && not (slice_index
    (drop 1 s) 0 == 48) else are_few_digits s)
    (ap (λ x. x == 45) index ∙ no_minus _ u.first) ∙ u.few refl

pub unsigned_number : (line : List ℕ) (decimals : Bool) (from end : ℕ) → IsUnsigned line decimals from end
    → IsNumber (piece line from (end - from)) × (is_taken decimals (piece line from (end - from)) ≡ true)
unfolding after_number
unsigned_number line decimals from end u =
    let s = piece line from (end - from) in
    let inside : from < length line = omega (arith, u.ordered, u.inside) in
    let front : head s ≡ get_or line from 0 = ap head (one_more line from end inside u.ordered) in (
      ap (λ b. option_and_then after_exponent (option_and_then after_fraction
          (after_whole (cond b (drop 1 s) s)))) (ap (λ x. x == 45) front ∙ no_minus _ u.first) ∙ u.grammar,
      taken_if decimals line from end u,
    )

minus_plain : (n : ℕ) (ds : List ℕ) → list_all is_no_e (take (n - 10) ds) ≡ true
    → list_all is_no_e (take (suc n - 10) (45 ∷ ds)) ≡ true
minus_plain n ds h = go (cases_lt n 10)
  where
    go : (n < 10) ⊎ (10 ≤ n) → list_all is_no_e (take (suc n - 10) (45 ∷ ds)) ≡ true
    go (inl lt) =
        let count : suc n - 10 ≡ 0 = omega arith in
        ap (λ k. list_all is_no_e (take k (45 ∷ ds))) count
    go (inr le) =
        let count : suc n - 10 ≡ suc (n - 10) = omega arith in
        ap (λ k. list_all is_no_e (take k (45 ∷ ds))) count ∙ h

minus_taken : (decimals : Bool) (line : List ℕ) (at end : ℕ) → IsUnsigned line decimals (at + 1) end
    → (decimals ≡ false → (get_or line (at + 1) 0 == 48) ≡ false)
    → is_taken decimals (45 ∷ piece line (at + 1) (end - (at + 1))) ≡ true
minus_taken true line at end u some =
    let s = piece line (at + 1) (end - (at + 1)) in
    let size : length s ≡ end - (at + 1) =
    length-take (end - (at + 1)) (drop (at + 1) line) ∙ omega (arith, length-drop (at + 1) line, u.inside) in
    let more : suc (length s) ≡ suc (end - (at + 1)) = ap suc size in
    both_true _ _ (ap (λ n. nat_le n 300) more ∙ le-leb (suc (end - (at + 1))) 300 (omega
    (arith, u.short refl)))
    (ap (λ n. list_all is_no_e (take (n - 10) (45 ∷ s))) more
    ∙ minus_plain (end - (at + 1)) s (u.plain refl))
minus_taken false line at end u some =
    let s = piece line (at + 1) (end - (at + 1)) in
    let inside : at + 1 < length line = omega (arith, u.ordered, u.inside) in
    let index : slice_index s 0 ≡ get_or line (at + 1) 0 =
    ap (λ l. get_or l 0 0) (one_more line (at + 1) end inside u.ordered) in
    both_true _ _ (u.few refl) (ap (λ x. not (x == 48)) index ∙ ap not (some refl))

pub negative_number : (line : List ℕ) (decimals : Bool) (at end : ℕ) → at < length line
    → get_or line at 0 ≡ 45 → IsUnsigned line decimals (at + 1) end
    → (decimals ≡ false → (get_or line (at + 1) 0 == 48) ≡ false)
    → IsNumber (piece line at (end - at)) × (is_taken decimals (piece line at (end - at)) ≡ true)
unfolding after_number
negative_number line decimals at end inside minus u some =
    let s = piece line (at + 1) (end - (at + 1)) in
    let whole : piece line at (end - at) ≡ 45 ∷ s = one_more line at end inside (omega (arith, u.ordered))
    ∙ ap (λ x. x ∷ s) minus in (
      subst IsNumber (sym whole) u.grammar,
      ap (is_taken decimals) whole ∙ minus_taken decimals line at end u some,
    )
