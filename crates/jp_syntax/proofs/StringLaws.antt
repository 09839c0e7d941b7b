-- The values of string literals.
use Rattle.std.proofs.Common.{ℕ, [], ◌∷◌, ◌≤◌, Bool, true, false, not, ◌&&◌, ◌==◌, IsTrue, arith, refl, ap}
use Rattle.std.proofs.Common.{Option, Some, None, if◌then◌else◌, nat_le}
use Rattle.std.proofs.lemmas.Bool.{and_parts}
use Rattle.std.proofs.lemmas.Bool.Decides.{nat_tests}
use Rattle.jp_tree.specs.Tree.{Text}
use Rattle.jp_tree.specs.Characters.{is_scalar, is_quote, is_bare, escaped, is_hex_digit, hex_value}
use Rattle.jp_tree.specs.Characters.{is_surrogate, is_high_surrogate, is_low_surrogate, pair_value}
use Rattle.jp_tree.specs.Parts.{Each, Star, none, more}
use Rattle.jp_tree.specs.Strings.{Piece, bare, escape, unicode, surrogates, HexIs, four, IsString, quoted}

abbrev scalar_if_any : Option ℕ → Bool
scalar_if_any (Some n) = is_scalar n
scalar_if_any None = true

either_scalar : (b : Bool) (x y : Option ℕ) → IsTrue (scalar_if_any x) → IsTrue (scalar_if_any y)
    → IsTrue (scalar_if_any (if b then x else y))
either_scalar true x y h k = h
either_scalar false x y h k = k

quote_scalar : (c : ℕ) → IsTrue (is_quote c) → IsTrue (is_scalar c)
quote_scalar c h = grind (arith, nat_tests)

escaped_scalar : (quote letter : ℕ) → IsTrue (is_quote quote) → IsTrue (scalar_if_any (escaped quote letter))
escaped_scalar quote letter h =
    either_scalar (letter == 98) (Some 0x08) _ refl
    (either_scalar (letter == 102) (Some 0x0C) _ refl
    (either_scalar (letter == 110) (Some 0x0A) _ refl
    (either_scalar (letter == 114) (Some 0x0D) _ refl
    (either_scalar (letter == 116) (Some 0x09) _ refl
    (either_scalar (letter == 47) (Some 47) _ refl
    (either_scalar (letter == 92) (Some 92) _ refl
    (either_scalar (letter == quote) (Some quote) None (quote_scalar quote h) refl)))))))

hex_value_within : (c : ℕ) → IsTrue (is_hex_digit c) → hex_value c ≤ 15
hex_value_within c h = grind (arith, nat_tests)

hex_within : (t : Text) (n : ℕ) → HexIs t n → n ≤ 65535
hex_within t n (four a b c d h) =
    let ha = hex_value_within a h.0 in
    let hb = hex_value_within b h.1.0 in
    let hc = hex_value_within c h.1.1.0 in
    let hd = hex_value_within d h.1.1.1.0 in
    omega arith

plain_scalar : (n : ℕ) → n ≤ 65535 → IsTrue (not (is_surrogate n)) → IsTrue (is_scalar n)
plain_scalar n h k = grind (arith, nat_tests)

pair_scalar : (high low : ℕ) → IsTrue (is_high_surrogate high) → IsTrue (is_low_surrogate low)
    → IsTrue (is_scalar (pair_value high low))
pair_scalar high low h k = grind (arith, nat_tests)

pub piece_scalar : (quote : ℕ) (t : Text) (value : ℕ) → IsTrue (is_quote quote) → Piece quote t value
    → IsTrue (is_scalar value)
piece_scalar quote t value q (bare c h) =
    let outer = and_parts (nat_le 0x20 c && is_scalar c && not (c == quote)) (not (c == 92)) h in
    let inner = and_parts (nat_le 0x20 c && is_scalar c) (not (c == quote)) outer.0 in
    (and_parts (nat_le 0x20 c) (is_scalar c) inner.0).1
piece_scalar quote t value q (escape letter v e) =
    let h = escaped_scalar quote letter q in
    let k = ap scalar_if_any e in cc
piece_scalar quote t value q (unicode u v h k) = plain_scalar v (hex_within u v h) k
piece_scalar quote t value q (surrogates u v high low h i k l) = pair_scalar high low i l

pub pieces_scalar : (quote : ℕ) (t value : Text) → IsTrue (is_quote quote) → Star (Piece quote) t value
    → Each is_scalar value
pieces_scalar quote t value q none = tt
pieces_scalar quote t value q (more s u x xs p ps) =
    (piece_scalar quote s x q p, pieces_scalar quote u xs q ps)

pub string_scalar : (t value : Text) → IsString t value → Each is_scalar value
string_scalar t value (quoted quote u v q p) = pieces_scalar quote u value q p

-- bare characters stand for themselves
pub bares : (quote : ℕ) (t : Text) → Each (is_bare quote) t → Star (Piece quote) t t
bares quote [] h = none
bares quote (c ∷ t) h = more (c ∷ []) t c t (bare c h.0) (bares quote t h.1)
