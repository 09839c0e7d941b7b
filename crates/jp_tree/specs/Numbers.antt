-- Texts of numbers. A number is kept as it is written.
use Rattle.std.specs.Prelude.{ℕ, Bool, ◌||◌, ◌==◌, IsTrue, [], ◌∷◌, ◌++◌}
use Rattle.jp_tree.specs.Tree.{Text}
use Rattle.jp_tree.specs.Characters.{is_digit, is_positive_digit}
use Rattle.jp_tree.specs.Parts.{Each, IsOptional, IsRun}

-- the integer of an index or a slice: no leading zeros, no `-0` (RFC 9535, 2.3.3.1)
pub data IsInt : Text → Type 0 where
  zero_int : IsInt (48 ∷ [])
  positive_int : (c : ℕ) (t : Text) → IsTrue (is_positive_digit c) → Each is_digit t → IsInt (c ∷ t)
  negative_int : (c : ℕ) (t : Text) → IsTrue (is_positive_digit c) → Each is_digit t → IsInt (45 ∷ c ∷ t)

-- one digit or more (RFC 9535, 2.3.5.1)
abbrev pub IsDigits : Text → Type 0
IsDigits = IsRun is_digit is_digit

-- what a number literal begins with: an integer, or `-0` (RFC 9535, 2.3.5.1)
pub data IsWhole : Text → Type 0 where
  whole_int : (t : Text) → IsInt t → IsWhole t
  minus_zero : IsWhole (45 ∷ 48 ∷ [])

-- `.` and digits (RFC 9535, 2.3.5.1)
pub data IsFraction : Text → Type 0 where
  fraction : (t : Text) → IsDigits t → IsFraction (46 ∷ t)

-- the sign of an exponent: `+`, `-` or nothing (RFC 9535, 2.3.5.1)
pub data IsSign : Text → Type 0 where
  no_sign : IsSign []
  plus_sign : IsSign (43 ∷ [])
  minus_sign : IsSign (45 ∷ [])

-- what an exponent begins with: `e` or `E` (RFC 9535, 2.3.5.1)
abbrev pub is_exponent_mark : ℕ → Bool
is_exponent_mark c = c == 101 || c == 69

-- `e` or `E`, perhaps a sign, and digits (RFC 9535, 2.3.5.1)
pub data IsExponent : Text → Type 0 where
  exponent : (mark : ℕ) (s t : Text) → IsTrue (is_exponent_mark mark) → IsSign s → IsDigits t
      → IsExponent (mark ∷ s ++ t)

-- a number literal (RFC 9535, 2.3.5.1)
pub data IsNumber : Text → Type 0 where
  number : (r s t : Text) → IsWhole r → IsOptional IsFraction s → IsOptional IsExponent t
      → IsNumber (r ++ (s ++ t))
