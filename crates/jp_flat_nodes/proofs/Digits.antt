-- Digits of a line, and the numbers that they are.
use Rattle.std.proofs.Common.{◌≡◌, ℕ, zero, suc, ◌+◌, ◌-◌, ◌<◌, ◌≤◌, Bool, true, false, not, ◌&&◌, ◌||◌, ◌==◌}
use Rattle.std.proofs.Common.{cond, List, [], ◌∷◌, ◌++◌, length, take, drop, get_or, Some, None}
use Rattle.std.proofs.Common.{refl, sym, ap, ◌∙◌, arith, add-zero, get_or-drop}
use Rattle.std.proofs.Common.{length-drop, eqb-true, ne_eqb, lt-ltb, le-leb}
use Rattle.std.proofs.lemmas.Bool.{and_parts, leb-true}
use Rattle.std.proofs.lemmas.List.{length-take}
use Rattle.std.specs.Char.{is_ascii_digit}
use Rattle.std.specs.List.{list_all, prefix_len}
use Rattle.std.specs.Prelude.{nat_lt, nat_le}
use Rattle.json.specs.Word.{head, after_digits, after_whole}
use Rattle.jp_flat_nodes.specs.Digits.{are_few_digits, is_no_e}
use Rattle.jp_flat_nodes.specs.inner.Reads.{IsDigits}
use Rattle.jp_flat_nodes.proofs.Cuts.{first_passes}

pub both_true : (a b : Bool) → a ≡ true → b ≡ true → (a && b) ≡ true
both_true a b h k = rw (h, k) refl

-- ---- by the grammar, and what is behind them

abbrev pub NoDigit : List ℕ → Type 0
NoDigit r = is_ascii_digit (head r) ≡ false

none_first : (r : List ℕ) → NoDigit r → prefix_len is_ascii_digit r ≡ 0
none_first [] h = refl
none_first (x ∷ r) h = ap (λ b. cond b (1 + prefix_len is_ascii_digit r) 0) h

counted : (xs : List ℕ) (m : ℕ) (r : List ℕ) → m ≤ prefix_len is_ascii_digit xs → NoDigit r
    → prefix_len is_ascii_digit (take m xs ++ r) ≡ m
counted xs zero r h n = none_first r n
counted [] (suc m) r h n = absurd (omega arith)
counted (x ∷ xs) (suc m) r h n =
    let first = first_passes (is_ascii_digit x) (prefix_len is_ascii_digit xs) m h in
    let rest = counted xs m r first.1 n in
    ap (λ b. cond b (1 + prefix_len is_ascii_digit (take m xs ++ r)) 0) first.0 ∙ omega (arith, rest)

passed : (xs : List ℕ) (m : ℕ) (r : List ℕ) → m ≤ prefix_len is_ascii_digit xs → drop m (take m xs ++ r) ≡ r
passed xs zero r h = refl
passed [] (suc m) r h = absurd (omega arith)
passed (x ∷ xs) (suc m) r h =
    passed xs m r (first_passes (is_ascii_digit x) (prefix_len is_ascii_digit xs) m h).1

pub digits_then : (xs : List ℕ) (m : ℕ) (r : List ℕ) → 0 < m → m ≤ prefix_len is_ascii_digit xs → NoDigit r
    → after_digits (take m xs ++ r) ≡ Some r
digits_then xs m r some h n =
    let all = take m xs ++ r in
    ap (λ k. cond (k == 0) None (Some (drop k all))) (counted xs m r h n)
    ∙ ap (λ b. cond b None (Some (drop m all))) (ne_eqb m 0 (λ e. omega arith)) ∙ ap Some (passed xs m r h)

by_zero : (x m : ℕ) (xs r : List ℕ) (b : Bool) → (b ≡ true → m ≡ 0)
    → after_digits (x ∷ (take m xs ++ r)) ≡ Some r
    → cond b (Some (take m xs ++ r)) (after_digits (x ∷ (take m xs ++ r))) ≡ Some r
by_zero x m xs r true h e = ap (λ k. Some (take k xs ++ r)) (h refl)
by_zero x m xs r false h e = e

pub whole_then : (xs : List ℕ) (m : ℕ) (r : List ℕ) → 0 < m → m ≤ prefix_len is_ascii_digit xs
    → (get_or xs 0 0 ≡ 48 → m ≤ 1) → NoDigit r → after_whole (take m xs ++ r) ≡ Some r
whole_then xs zero r some h led n = absurd (omega arith)
whole_then [] (suc m) r some h led n = absurd (omega arith)
whole_then (x ∷ xs) (suc m) r some h led n =
    by_zero x m xs r (x == 48) (λ e. omega (arith, led (eqb-true x 48 e)))
    (digits_then (x ∷ xs) (suc m) r some h n)

digit_no_e : (x : ℕ) → is_ascii_digit x ≡ true → is_no_e x ≡ true
digit_no_e x h =
    let most : x ≤ 57 = leb-true x 57 (and_parts (nat_le 48 x) (nat_le x 57) h).1 in
    rw (ne_eqb x 101 (λ e. omega arith), ne_eqb x 69 (λ e. omega arith)) refl

pub digits_no_e : (xs : List ℕ) (m : ℕ) → m ≤ prefix_len is_ascii_digit xs
    → list_all is_no_e (take m xs) ≡ true
digits_no_e xs zero h = refl
digits_no_e [] (suc m) h = refl
digits_no_e (x ∷ xs) (suc m) h =
    let first = first_passes (is_ascii_digit x) (prefix_len is_ascii_digit xs) m h in
    both_true _ _ (digit_no_e x first.0) (digits_no_e xs m first.1)

first_digit : (xs : List ℕ) → 0 < prefix_len is_ascii_digit xs → is_ascii_digit (get_or xs 0 0) ≡ true
first_digit [] h = absurd (omega arith)
first_digit (x ∷ xs) h =
    (first_passes (is_ascii_digit x) (prefix_len is_ascii_digit xs) 0 (omega arith)).0

-- ---- by their count

all_digits : (xs : List ℕ) (n : ℕ) → n ≤ prefix_len is_ascii_digit xs
    → list_all is_ascii_digit (take n xs) ≡ true
all_digits xs zero h = refl
all_digits [] (suc n) h = refl
all_digits (x ∷ xs) (suc n) h =
    let first = first_passes (is_ascii_digit x) (prefix_len is_ascii_digit xs) n h in
    both_true _ _ first.0 (all_digits xs n first.1)

led_if : (b : Bool) (n first : ℕ) → (first == 48) ≡ b → (first ≡ 48 → n ≤ 1)
    → (nat_le n 1 || not (first == 48)) ≡ true
led_if true n first e h = ap (λ b. b || not (first == 48)) (le-leb n 1 (h (eqb-true first 48 e)))
led_if false n first e h = second (nat_le n 1) (ap not e)
  where
    second : (a : Bool) → not (first == 48) ≡ true → (a || not (first == 48)) ≡ true
    second true k = refl
    second false k = k

front_of : (xs : List ℕ) (n : ℕ) → 0 < n → get_or (take n xs) 0 0 ≡ get_or xs 0 0
front_of xs zero h = absurd (omega arith)
front_of [] (suc n) h = refl
front_of (x ∷ xs) (suc n) h = refl

few_digits : (xs : List ℕ) (n : ℕ) → 0 < n → n ≤ 18 → n ≤ length xs → n ≤ prefix_len is_ascii_digit xs
    → (get_or xs 0 0 ≡ 48 → n ≤ 1) → are_few_digits (take n xs) ≡ true
few_digits xs n some few within h led =
    let count : length (take n xs) ≡ n = length-take n xs ∙ omega arith in
    let lead : get_or (take n xs) 0 0 ≡ get_or xs 0 0 = front_of xs n some in
    both_true _ _
    (both_true _ _ (ap (nat_lt 0) count ∙ lt-ltb 0 n some)
    (both_true _ _ (all_digits xs n h)
    (led_if (get_or (take n xs) 0 0 == 48) (length (take n xs)) (get_or (take n xs) 0 0) refl
    (λ e. omega (arith, count, led (sym lead ∙ e))))))
    (ap (λ k. nat_le k 18) count ∙ le-leb n 18 few)

-- ---- of a line

pub digits_are : (line : List ℕ) (from end : ℕ) → end ≡ from + prefix_len is_ascii_digit (drop from line)
    → end ≤ length line → from < end → end - from ≤ 18 → (get_or line from 0 ≡ 48 → end ≤ from + 1)
    → IsDigits line from end
digits_are line from end is inside some few led =
    let first : get_or (drop from line) 0 0 ≡ get_or line from 0 = get_or-drop from line 0 0
    ∙ ap (λ i. get_or line i 0) (add-zero from) in
    let zero_alone : get_or (drop from line) 0 0 ≡ 48 → end - from ≤ 1 =
    (λ e. omega (arith, led (sym first ∙ e))) in
    record {
      ordered = some;
      inside = inside;
      few = few_digits (drop from line) (end - from) (omega arith) few (omega (arith, length-drop from line))
          (omega arith) zero_alone;
      passes = λ r. whole_then (drop from line) (end - from) r (omega arith) (omega arith) zero_alone;
      no_e = digits_no_e (drop from line) (end - from) (omega arith);
      first = ap is_ascii_digit (sym first) ∙ first_digit (drop from line) (omega arith);
    }
