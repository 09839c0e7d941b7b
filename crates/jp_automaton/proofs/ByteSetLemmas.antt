-- A byte that is added to a set is in it, and what was in it stays.
use Rattle.std.proofs.Common.{◌≡◌, ℕ, zero, suc, ◌<◌, ◌≤◌, List, [], ◌∷◌, length, get_or, set, bit_and}
use Rattle.std.proofs.Common.{bit_or, sym, ap, ◌∙◌, arith}
use Rattle.std.proofs.lemmas.Grind.{get_or-set_at}
use Rattle.std.proofs.lemmas.Nat.{and_assoc, and_comm, and_le_l, and_or_self, or_comm}

-- a has the bits of b
abbrev HasBits : ℕ → ℕ → Type 0
HasBits a b = bit_and a b ≡ b

more_bits : (a p : ℕ) → HasBits (bit_or a p) a
more_bits a p = ap (λ x. bit_and x a) (or_comm a p) ∙ and_or_self a p

-- what two numbers have in common, they have with more bits
common : (a b more_a more_b : ℕ) → HasBits more_a a → HasBits more_b b → bit_and a b ≤ bit_and more_a more_b
common a b more_a more_b has_a has_b =
    let kept : bit_and (bit_and more_a more_b) (bit_and a b) ≡ bit_and a b =
    and_assoc (bit_and a b) more_a more_b
    ∙ ap (bit_and more_a) (ap (bit_and more_b) (and_comm a b) ∙ sym (and_assoc a more_b b)
    ∙ ap (λ x. bit_and x a) has_b ∙ and_comm b a)
    ∙ sym (and_assoc b more_a a) ∙ ap (λ x. bit_and x b) has_a in
    omega (arith, and_le_l (bit_and more_a more_b) (bit_and a b), kept)

-- what both were given, they have in common
given : (a b p : ℕ) → p ≤ bit_and (bit_or a p) (bit_or b p)
given a b p =
    let kept : bit_and (bit_and (bit_or a p) (bit_or b p)) p ≡ p =
    and_assoc p (bit_or a p) (bit_or b p) ∙ ap (bit_and (bit_or a p)) (and_or_self p b) ∙ and_or_self p a in
    omega (arith, and_le_l (bit_and (bit_or a p) (bit_or b p)) p, kept)

-- an entry was given more bits, or is as it was
kept_entry : (xs : List ℕ) (i p j : ℕ) →
    HasBits (get_or (set xs i (bit_or (get_or xs i 0) p)) j 0) (get_or xs j 0)
kept_entry [] i p j = and_or_self 0 0
kept_entry (x ∷ xs) zero p zero = more_bits x p
kept_entry (x ∷ xs) zero p (suc j) = and_or_self (get_or xs j 0) 0
kept_entry (x ∷ xs) (suc i) p zero = and_or_self x 0
kept_entry (x ∷ xs) (suc i) p (suc j) = kept_entry xs i p j

module _ (low high : List ℕ) (i j bit : ℕ) where
  abbrev more_low : List ℕ
  more_low = set low i (bit_or (get_or low i 0) bit)

  abbrev more_high : List ℕ
  more_high = set high j (bit_or (get_or high j 0) bit)

  pub stays : (k l : ℕ) → bit_and (get_or more_low k 0) (get_or more_high l 0) ≡ 0 →
      bit_and (get_or low k 0) (get_or high l 0) ≡ 0
  stays k l none =
      omega (
        arith,
        none,
        common (get_or low k 0) (get_or high l 0) (get_or more_low k 0) (get_or more_high l 0)
            (kept_entry low i bit k) (kept_entry high j bit l),
      )

  pub is_added : (k l : ℕ) → k ≡ i → l ≡ j → i < length low → j < length high → 0 < bit →
      bit_and (get_or more_low k 0) (get_or more_high l 0) ≡ 0 → ⊥
  is_added k l at_k at_l in_low in_high some none =
      let new_low = bit_or (get_or low i 0) bit in
      let new_high = bit_or (get_or high j 0) bit in
      let entries : bit_and (get_or more_low k 0) (get_or more_high l 0) ≡ bit_and new_low new_high =
      ap (λ x. bit_and x (get_or more_high l 0)) (get_or-set_at low i k new_low 0 at_k in_low)
      ∙ ap (bit_and new_low) (get_or-set_at high j l new_high 0 at_l in_high) in
      omega (arith, none, entries, given (get_or low i 0) (get_or high j 0) bit)
