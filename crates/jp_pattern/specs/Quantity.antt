-- Counts and quantities.
use Rattle.std.specs.Prelude.{ℕ, ◌+◌, ◌-◌, ◌*◌, Bool, ◌&&◌, nat_le, ◌∷◌, ◌++◌, Option, Some, None, IsTrue}
use Rattle.std.specs.Prelude.{codes, fold}
use Rattle.std.specs.List.{AllByRecursion}
use Rattle.jp_pattern.specs.Pattern.{Text}

-- a digit, `0` to `9` (RFC 9485, 3: QuantExact)
abbrev pub is_digit : ℕ → Bool
is_digit c = nat_le 48 c && nat_le c 57

-- the number that digits write in decimal; zeros may lead (RFC 9485, 3: QuantExact)
abbrev pub number : Text → ℕ
number digits = fold (λ n c. n * 10 + (c - 48)) 0 digits

-- one digit or more, and their number (RFC 9485, 3: QuantExact)
pub data IsCount : Text → ℕ → Type 0 where
  count : (c : ℕ) (t : Text) → AllByRecursion (λ d. IsTrue (is_digit d)) (c ∷ t) → IsCount (c ∷
      t) (number (c ∷ t))

-- a quantity other than `+`, and the least and the most number of parts (RFC 9485, 3: quantifier)
pub data IsQuantity : Text → ℕ → Option ℕ → Type 0 where
  star : IsQuantity (codes "*") 0 None
  question : IsQuantity (codes "?") 0 (Some 1)
  exactly : {t : Text} {n : ℕ} → IsCount t n → IsQuantity (codes "{" ++ (t ++ codes "}")) n (Some n)
  at_least : {t : Text} {n : ℕ} → IsCount t n → IsQuantity (codes "{" ++ (t ++ codes ",}")) n None
  between : {s t : Text} {n m : ℕ} → IsCount s n → IsCount t m →
      IsQuantity (codes "{" ++ (s ++ (codes "," ++ (t ++ codes "}")))) n (Some m)
