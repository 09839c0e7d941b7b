-- The order of numbers by their values is a total one, and equality an equivalence.
use Rattle.std.proofs.Common.{◌≡◌, ℕ, suc, ◌*◌, ◌<◌, ℤ, pos, negsuc, neg_ℤ, Bool, true, false, cond}
use Rattle.std.proofs.Common.{refl, sym, ap, ◌∙◌, arith}
use Rattle.std.specs.Prelude.{◌*ℤ◌, ◌<ℤ◌, int_lt}
use Rattle.std.proofs.lemmas.Int.{ints}
use Rattle.std.proofs.Math.Nat.{mul-lt-mul_of_pos_right, mul_comm, mul_assoc}
use Rattle.std.proofs.lemmas.Cmp.{int_cmp_total, eq_by_cmp_equiv}
use Rattle.std.specs.Cmp.{IsTotalOrder, IsEquivalence, int_ranks, int_cmp_is}
use Rattle.std.specs.Ordering.{int_cmp, int_eq, is_eq, is_lt, ordering_reverse, MatchOrdering}
use Rattle.std.specs.declared.cmp.Ordering.{Ordering}
use Rattle.std.specs.declared.cmp.Ordering.TheVariants.{Less, Equal, Greater}
use Rattle.fast_float.specs.Text.{tens_down}
use Rattle.jp_number.specs.Number.{Number, whole, written, parts, top, bottom, order, is_equal, is_below}
use Rattle.jp_number.proofs.Places.{ten_some}
use Rattle.jp_number.proofs.Signs.{scaled}

times_below : (a b : ℤ) (k : ℕ) → 0 < k → a <ℤ b → (a *ℤ pos k) <ℤ (b *ℤ pos k)
times_below (pos a) (pos b) k h l =
    let m : a < b = omega (arith, ints) in
    let n : a * k < b * k = mul-lt-mul_of_pos_right m h in
    omega (arith, ints, n)
times_below (pos a) (negsuc b) k h l = absurd (omega (arith, ints, l))
times_below (negsuc a) (pos b) k h l =
    let n : 0 * k < suc a * k = mul-lt-mul_of_pos_right (omega arith) h in
    omega (arith, ints, n)
times_below (negsuc a) (negsuc b) k h l =
    let m : suc b < suc a = omega (arith, ints) in
    let n : suc b * k < suc a * k = mul-lt-mul_of_pos_right m h in
    omega (arith, ints, n)

times_by : (a b : ℤ) (k : ℕ) (o : Ordering) → 0 < k → MatchOrdering o (a <ℤ b) (a ≡ b) (b <ℤ a)
    → MatchOrdering o ((a *ℤ pos k) <ℤ (b *ℤ pos k)) (a *ℤ pos k ≡ b *ℤ pos k) ((b *ℤ pos k) <ℤ (a *ℤ pos k))
times_by a b k Less h r = times_below a b k h r
times_by a b k Equal h r = ap (λ x. x *ℤ pos k) r
times_by a b k Greater h r = times_below b a k h r

-- a common factor changes no order
times : (a b : ℤ) (k : ℕ) → 0 < k → int_cmp a b ≡ int_cmp (a *ℤ pos k) (b *ℤ pos k)
times a b k h =
    int_cmp_is (a *ℤ pos k) (b *ℤ pos k) (int_cmp a b) (times_by a b k (int_cmp a b) h (int_ranks a b))

twice : (a : ℤ) (m n : ℕ) → a *ℤ pos m *ℤ pos n ≡ a *ℤ pos (m * n)
twice (pos a) m n = ap pos (omega arith)
twice (negsuc a) m n = scaled true (suc a * m) n ∙ ap (λ k. neg_ℤ (pos k)) (mul_assoc (suc a) m n)

some_bottom : (n : Number) → 0 < bottom n
unfolding bottom
some_bottom (whole z) = omega arith
some_bottom (written s) = ten_some (tens_down (parts s))

-- two of three numbers by one bottom
level : (n m k : Number)
    → order n m ≡ int_cmp (top n *ℤ pos (bottom m * bottom k)) (top m *ℤ pos (bottom n * bottom k))
unfolding order
level n m k =
    times (top n *ℤ pos (bottom m)) (top m *ℤ pos (bottom n)) (bottom k) (some_bottom k)
    ∙ ap (λ x. int_cmp x (top m *ℤ pos (bottom n) *ℤ pos (bottom k))) (twice (top n) (bottom m) (bottom k))
    ∙ ap (λ x. int_cmp (top n *ℤ pos (bottom m * bottom k)) x) (twice (top m) (bottom n) (bottom k))

turned : (a b : ℤ) (m n k l : ℕ) → m ≡ k → n ≡ l
    → int_cmp (a *ℤ pos m) (b *ℤ pos n) ≡ int_cmp (a *ℤ pos k) (b *ℤ pos l)
turned a b m n k l e f =
    ap (λ x. int_cmp (a *ℤ pos x) (b *ℤ pos n)) e ∙ ap (λ x. int_cmp (a *ℤ pos k) (b *ℤ pos x)) f

second : (n m k : Number)
    → order m k ≡ int_cmp (top m *ℤ pos (bottom n * bottom k)) (top k *ℤ pos (bottom n * bottom m))
second n m k =
    level m k n
    ∙ turned (top m) (top k) _ _ _ _ (mul_comm (bottom k) (bottom n)) (mul_comm (bottom m) (bottom n))

third : (n m k : Number)
    → order n k ≡ int_cmp (top n *ℤ pos (bottom m * bottom k)) (top k *ℤ pos (bottom n * bottom m))
third n m k = level n k m ∙ turned (top n) (top k) _ _ _ _ (mul_comm (bottom k) (bottom m)) refl

-- the order is total
pub order_total : IsTotalOrder order
unfolding order
order_total = record {
  antisymm = λ n m. int_cmp_total.antisymm (top n *ℤ pos (bottom m)) (top m *ℤ pos (bottom n));
  trans = λ n m k p q. third n m k ∙ int_cmp_total.trans _ (top m *ℤ pos (bottom n * bottom k)) _
      (sym (level n m k) ∙ p) (sym (second n m k) ∙ q);
  congr = λ n m k p. third n m k ∙ int_cmp_total.congr _ (top m *ℤ pos (bottom n * bottom k)) _
      (sym (level n m k) ∙ p) ∙ sym (second n m k);
}

-- numbers of one value are one as far as the order sees
pub equality : IsEquivalence is_equal
equality = eq_by_cmp_equiv order_total

pub by_one : (z : ℤ) → z *ℤ pos 1 ≡ z
by_one (pos a) = let e : a * 1 ≡ a = omega arith in ap pos e
by_one (negsuc a) = let e : suc a * 1 ≡ suc a = omega arith in ap (λ k. neg_ℤ (pos k)) e

-- on whole numbers it is their order
pub whole_order : (x y : ℤ) → order (whole x) (whole y) ≡ int_cmp x y
unfolding order top bottom
whole_order x y = ap (λ z. int_cmp z (y *ℤ pos 1)) (by_one x) ∙ ap (λ z. int_cmp x z) (by_one y)

-- and so are being equal and being below
pub whole_equal : (x y : ℤ) → is_equal (whole x) (whole y) ≡ int_eq x y
whole_equal x y = ap is_eq (whole_order x y)

less_by : (less more : Bool) → is_lt (cond less Less (cond more Greater Equal)) ≡ less
less_by true more = refl
less_by false true = refl
less_by false false = refl

pub whole_below : (x y : ℤ) → is_below (whole x) (whole y) ≡ int_lt x y
whole_below x y = ap is_lt (whole_order x y) ∙ less_by (int_lt x y) (int_lt y x)

pub compared : (x y : ℤ) (o : Ordering) → o ≡ int_cmp x y → o ≡ order (whole x) (whole y)
compared x y o e = e ∙ sym (whole_order x y)

pub turned_round : (n m : Number) (o r : Ordering) → o ≡ order n m → r ≡ ordering_reverse o → r ≡ order m n
turned_round n m o r e f = f ∙ ap ordering_reverse e ∙ sym (order_total.antisymm m n)
