-- Patterns of size 0.
use Rattle.std.proofs.Common.{◌≡◌, ℕ, zero, suc, ◌+◌, ◌*◌, ◌≤◌, ◌⊎◌, List, [], ◌∷◌, length, Some, None, ◌↔◌}
use Rattle.std.proofs.Common.{refl, sym, ap, subst, inl, inr, arith}
use Rattle.std.specs.List.{concat, AllByRecursion}
use Rattle.jp_pattern.specs.Pattern.{Text, Pattern, empty, letter, group, seq, either, repeat, plus}
use Rattle.jp_pattern.specs.Profile.{size, HasCounts, IsPatternOf}
use Rattle.jp_pattern.specs.Language.{Member}

product_zero : (a b : ℕ) → a * b ≡ 0 → (a ≡ 0) ⊎ (b ≡ 0)
product_zero zero b e = inl refl
product_zero (suc a) b e = inr (omega arith)

-- a list of so many empty parts
empty_parts : (Part : Text → Type 0) (n : ℕ) → Part [] → (parts : List Text) × AllByRecursion Part parts
    × (length parts ≡ n) × ([] ≡ concat parts)
empty_parts Part zero h = ([], tt, refl, refl)
empty_parts Part (suc n) h =
    let r = empty_parts Part n h in ([] ∷ r.0, (h, r.1), ap suc r.2, r.3)

-- parts that are all empty join to the empty text
joined_empty : (Part : Text → Type 0) (parts : List Text) → ((t : Text) → Part t → t ≡ [])
    → AllByRecursion Part parts → concat parts ≡ []
joined_empty Part [] only all = refl
joined_empty Part (t ∷ parts) only all =
    let first = only t all.0 in
    let rest = joined_empty Part parts only all.1 in
    rw (first, rest)

no_parts : (parts : List Text) → length parts ≤ 0 → concat parts ≡ []
no_parts [] h = refl
no_parts (t ∷ parts) h = absurd (omega arith)

pub only_empty : (p : Pattern) (t : Text) → HasCounts p → size p ≡ 0 → Member p t → t ≡ []
only_empty empty t counts e m = m
only_empty (letter set) t counts e m = absurd (omega arith)
only_empty (group p) t counts e m = only_empty p t counts e m
only_empty (seq p q) t counts e (u, v, split, a, b) =
    let first = only_empty p u counts.0 (omega arith) a in
    let second = only_empty q v counts.1 (omega arith) b in
    rw (split, first, second)
only_empty (either p q) t counts e (inl m) = only_empty p t counts.0 (omega arith) m
only_empty (either p q) t counts e (inr m) = only_empty q t counts.1 (omega arith) m
only_empty (repeat least None p) t counts e (parts, all, low, high, joins) =
    elim (product_zero (least + 1) (size p) e) [
      | inl z ↦ absurd (omega arith)
      | inr z ↦ rw joins (joined_empty (Member p) parts (λ s. only_empty p s counts.1 z) all)
    ]
only_empty (repeat least (Some most) p) t counts e (parts, all, low, high, joins) =
    elim (product_zero most (size p) e) [
      | inl z ↦ rw joins (no_parts parts (omega arith))
      | inr z ↦ rw joins (joined_empty (Member p) parts (λ s. only_empty p s counts.1 z) all)
    ]
only_empty (plus p) t counts e (parts, all, low, high, joins) =
    rw joins (joined_empty (Member p) parts (λ s. only_empty p s counts e) all)

pub has_empty : (p : Pattern) → HasCounts p → size p ≡ 0 → Member p []
has_empty empty counts e = refl
has_empty (letter set) counts e = absurd (omega arith)
has_empty (group p) counts e = has_empty p counts e
has_empty (seq p q) counts e =
    ([], [], refl, has_empty p counts.0 (omega arith), has_empty q counts.1 (omega arith))
has_empty (either p q) counts e = inl (has_empty p counts.0 (omega arith))
has_empty (repeat least None p) counts e =
    elim (product_zero (least + 1) (size p) e) [
      | inl z ↦ absurd (omega arith)
      | inr z ↦
          let r = empty_parts (Member p) least (has_empty p counts.1 z) in
          (r.0, r.1, omega (arith, r.2), tt, r.3)
    ]
has_empty (repeat least (Some most) p) counts e =
    elim (product_zero most (size p) e) [
      | inl z ↦ ([], tt, omega arith, omega arith, refl)
      | inr z ↦
          let r = empty_parts (Member p) least (has_empty p counts.1 z) in
          (r.0, r.1, omega (arith, r.2), omega (arith, r.2), r.3)
    ]
has_empty (plus p) counts e = ([] ∷ [], (has_empty p counts e, tt), omega arith, tt, refl)

-- an I-Regexp of size 0 has the empty text alone
pub language : {text : Text} (p : Pattern) → IsPatternOf text p → size p ≡ 0 → (t : Text) → Member p t
    ↔ (t ≡ [])
language p of e t = (
  only_empty p t of.in_profile.counts e,
  λ h. subst (Member p) (sym h)
      (has_empty p of.in_profile.counts e),
)
