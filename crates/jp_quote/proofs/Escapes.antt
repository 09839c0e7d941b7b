-- The characters of a text, escaped, spell the text between single quotes.
use Rattle.std.proofs.Common.{◌≡◌, ℕ, ◌/◌, ◌%◌, ◌<◌, ◌≤◌, ◌==◌, nat_lt, Bool, true, false, not, IsTrue}
use Rattle.std.proofs.Common.{if◌then◌else◌, [], ◌∷◌, ◌++◌, codes, refl, sym, subst, arith, Some}
use Rattle.std.proofs.lemmas.Bool.Decides.{nat_tests}
use Rattle.std.specs.List.{flat_map}
use borrow.Author.Tests.{eqb-true, ltb-true, ltb-false, le-leb}
use Rattle.jp_tree.specs.Tree.{Text}
use Rattle.jp_tree.specs.Characters.{is_scalar, is_bare, is_hex_digit, hex_value, hex_number, is_surrogate}
use Rattle.jp_tree.specs.Characters.{escaped as escaped_by}
use Rattle.jp_tree.specs.Parts.{Each, Star, none, more}
use Rattle.jp_tree.specs.Strings.{Piece, bare, escape, unicode, HexIs, four}
use Rattle.jp_node.specs.Path.{escaped, hex_digit}

-- the hexadecimal digits of a control character
hex_digit_is : (d : ℕ) → d < 16 → IsTrue (is_hex_digit (hex_digit d))
hex_digit_is d h = grind (arith, nat_tests)

hex_digit_value : (d : ℕ) → d < 16 → hex_value (hex_digit d) ≡ d
hex_digit_value d h = grind (arith, nat_tests)

abbrev pub control_text : ℕ → Text
control_text c = codes "\\u00" ++ hex_digit (c / 16) ∷ hex_digit (c % 16) ∷ []

-- an escaped character, by its cases
module _ (P : Text → Type 0) where
  if_equal : (c d : ℕ) (b : Bool) (x y : Text) → (c == d) ≡ b → (c ≡ d → P x) → ((c == d) ≡ false → P y)
      → P (if b then x else y)
  if_equal c d true x y e f g = f (eqb-true c d e)
  if_equal c d false x y e f g = g e

  if_less : (c d : ℕ) (b : Bool) (x y : Text) → nat_lt c d ≡ b → (c < d → P x) → (d ≤ c → P y)
      → P (if b then x else y)
  if_less c d true x y e f g = f (ltb-true c d e)
  if_less c d false x y e f g = g (ltb-false c d e)

  pub by_character : (c : ℕ)
      → (c ≡ 39 → P (codes "\\'"))
      → (c ≡ 92 → P (codes "\\\\")) → (c ≡ 8 → P (codes "\\b")) → (c ≡ 9 → P (codes "\\t"))
      → (c ≡ 10 → P (codes "\\n")) → (c ≡ 12 → P (codes "\\f")) → (c ≡ 13 → P (codes "\\r"))
      → (c < 32 → P (control_text c))
      → ((c == 39) ≡ false → (c == 92) ≡ false → 32 ≤ c → P (c ∷ []))
      → P (escaped c)
  by_character c quote backslash b t n f r control itself =
      if_equal c 39 (c == 39) _ _ refl quote (λ no_quote.
      if_equal c 92 (c == 92) _ _ refl backslash (λ no_backslash.
      if_equal c 8 (c == 8) _ _ refl b (λ h8.
      if_equal c 9 (c == 9) _ _ refl t (λ h9.
      if_equal c 10 (c == 10) _ _ refl n (λ h10.
      if_equal c 12 (c == 12) _ _ refl f (λ h12.
      if_equal c 13 (c == 13) _ _ refl r (λ h13.
      if_less c 32 (nat_lt c 32) _ _ refl control (λ high. itself no_quote no_backslash high))))))))

-- a letter's escape
letter_piece : (c letter value : ℕ) → escaped_by 39 letter ≡ Some value → c ≡ value
    → Piece 39 (92 ∷ letter ∷ []) c
letter_piece c letter value e h = subst (Piece 39 (92 ∷ letter ∷ [])) (sym h) (escape letter value e)

control_value : (c : ℕ) → c < 32 → hex_number 48 48 (hex_digit (c / 16)) (hex_digit (c % 16)) ≡ c
control_value c h =
    let high = hex_digit_value (c / 16) (omega arith) in
    let low = hex_digit_value (c % 16) (omega arith) in
    omega arith

control_hex : (c : ℕ) → c < 32 → HexIs (48 ∷ 48 ∷ hex_digit (c / 16) ∷ hex_digit (c % 16) ∷ []) c
control_hex c h =
    subst (HexIs (48 ∷ 48 ∷ hex_digit (c / 16) ∷ hex_digit (c % 16) ∷ [])) (control_value c h)
    (four 48 48 (hex_digit (c / 16)) (hex_digit (c % 16))
    (refl, (refl, (hex_digit_is (c / 16) (omega arith), (hex_digit_is (c % 16) (omega arith), tt)))))

control_scalar : (c : ℕ) → c < 32 → IsTrue (not (is_surrogate c))
control_scalar c h = grind (arith, nat_tests)

bare_itself : (c : ℕ) → IsTrue (is_scalar c) → (c == 39) ≡ false → (c == 92) ≡ false → 32 ≤ c
    → IsTrue (is_bare 39 c)
bare_itself c s q b h = rw (q, b, le-leb 32 c h, s) refl

-- an escaped character spells the character between single quotes
pub escaped_piece : (c : ℕ) → IsTrue (is_scalar c) → Piece 39 (escaped c) c
escaped_piece c s =
    by_character (λ t. Piece 39 t c) c
    (letter_piece c 39 39 refl) (letter_piece c 92 92 refl) (letter_piece c 98 8 refl)
    (letter_piece c 116 9 refl)
    (letter_piece c 110 10 refl) (letter_piece c 102 12 refl) (letter_piece c 114 13 refl)
    (λ h. unicode (48 ∷ 48 ∷ hex_digit (c / 16) ∷ hex_digit (c % 16) ∷ []) c (control_hex c h)
    (control_scalar c h))
    (λ q b h. bare c (bare_itself c s q b h))

pub name_pieces : (k : Text) → Each is_scalar k → Star (Piece 39) (flat_map escaped k) k
name_pieces [] h = none
name_pieces (c ∷ k) h = more (escaped c) (flat_map escaped k) c k (escaped_piece c h.0) (name_pieces k h.1)
