-- The value of a string literal (RFC 9535, 2.3.1).
use Rattle.std.specs.Prelude.{◌≡◌, ℕ, IsTrue, not, [], ◌∷◌, ◌++◌, Some}
use Rattle.jp_tree.specs.Tree.{Text}
use Rattle.jp_tree.specs.Characters.{is_quote, is_bare, escaped, is_hex_digit, hex_number, is_surrogate}
use Rattle.jp_tree.specs.Characters.{is_high_surrogate, is_low_surrogate, pair_value}
use Rattle.jp_tree.specs.Parts.{Each, Star}

-- four hexadecimal digits, and the number that they write (RFC 9535, 2.3.1.1)
pub data HexIs : Text → ℕ → Type 0 where
  four : (a b c d : ℕ) → Each is_hex_digit (a ∷ b ∷ c ∷ d ∷ [])
      → HexIs (a ∷ b ∷ c ∷ d ∷ []) (hex_number a b c d)

-- one bare character or one escape between these quotes,
-- and the character that it stands for (RFC 9535, 2.3.1.1)
pub data Piece (quote : ℕ) : Text → ℕ → Type 0 where
  -- the character itself
  bare : (c : ℕ) → IsTrue (is_bare quote c) → Piece quote (c ∷ []) c
  -- a backslash and a letter
  escape : (letter value : ℕ) → escaped quote letter ≡ Some value → Piece quote (92 ∷ letter ∷ []) value
  -- `\u` and the number of a scalar value
  unicode : (t : Text) (value : ℕ) → HexIs t value → IsTrue (not (is_surrogate value))
      → Piece quote (92 ∷ 117 ∷ t) value
  -- `\u` and a high surrogate, then `\u` and a low one
  surrogates : (s t : Text) (high low : ℕ) → HexIs s high → IsTrue (is_high_surrogate high) → HexIs t low
      → IsTrue (is_low_surrogate low)
      → Piece quote (92 ∷ 117 ∷ s ++ 92 ∷ 117 ∷ t) (pair_value high low)

-- a string literal in quotes of either kind, and its value (RFC 9535, 2.3.1)
pub data IsString : Text → Text → Type 0 where
  quoted : (quote : ℕ) (t value : Text) → IsTrue (is_quote quote) → Star (Piece quote) t value
      → IsString (quote ∷ t ++ quote ∷ []) value
