-- Sizes with a greatest number.
use Rattle.std.proofs.Common.{◌≡◌, ℕ, zero, suc, ◌+◌, ◌*◌, ◌<◌, ◌≤◌, ◌⊎◌, min, sym, ap, ◌∙◌, inl, inr, arith}

pub capped_sum : (a b m : ℕ) → min (min a m + min b m) m ≡ min (a + b) m
capped_sum a b m = omega arith

at_least_one : (a b : ℕ) → b ≤ suc a * b
at_least_one a b = grind arith

pub capped_product : (a b m : ℕ) → min (a * min b m) m ≡ min (a * b) m
capped_product zero b m = omega arith
capped_product (suc a) b m = by_order (either_order b m)
  where
    either_order : (b m : ℕ) → (b ≤ m) ⊎ (m ≤ b)
    either_order zero m = inl (omega arith)
    either_order (suc b) zero = inr (omega arith)
    either_order (suc b) (suc m) =
        elim (either_order b m) [ inl h ↦ inl (omega arith) | inr h ↦ inr (omega arith) ]

    by_order : (b ≤ m) ⊎ (m ≤ b) → min (suc a * min b m) m ≡ min (suc a * b) m
    by_order (inl h) = let e : min b m ≡ b = omega arith in ap (λ k. min (suc a * k) m) e
    by_order (inr h) =
        let e : min b m ≡ m = omega arith in
        let f : min (suc a * m) m ≡ m = omega (arith, at_least_one a m) in
        let g : min (suc a * b) m ≡ m = omega (arith, at_least_one a b) in
        ap (λ k. min (suc a * k) m) e ∙ f ∙ sym g

-- the greatest number is far above the limit
pub size_is : (n s m : ℕ) → s ≡ min n m → s ≤ 10_000 → 10_000 < m → s ≡ n
size_is n s m e le lt = omega arith

pub size_over : (n s m : ℕ) → s ≡ min n m → 10_000 < s → 10_000 < n
size_over n s m e lt = omega arith
