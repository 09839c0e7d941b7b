-- The bytes that numbers are made of (RFC 8259, 6).
use Rattle.std.specs.Prelude.{ℕ, ◌&&◌, ◌||◌, ◌==◌, nat_le, Bool}

-- a digit, a sign, a point, `e` or `E`
abbrev pub is_of_number : ℕ → Bool
is_of_number c = (nat_le 48 c && nat_le c 57) || c == 43 || c == 45 || c == 46 || c == 69 || c == 101
