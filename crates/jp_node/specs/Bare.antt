-- Which bytes of a text between quotes have an escape (RFC 8259, 7; RFC 9535, 2.7).
use Rattle.std.specs.Prelude.{ℕ, Bool, not, ◌||◌, ◌==◌, nat_lt}

-- the quote, the backslash and what is below the space
abbrev pub is_escaped : ℕ → ℕ → Bool
is_escaped quote x = ((x == quote) || (x == 92)) || nat_lt x 32

-- any other byte stands as it is
abbrev pub stands_bare : ℕ → ℕ → Bool
stands_bare quote x = not (is_escaped quote x)
