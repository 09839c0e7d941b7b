-- Classes of characters, by their numbers.
use Rattle.std.specs.Prelude.{ℕ, ◌+◌, ◌-◌, ◌*◌, Bool, not, ◌||◌, ◌&&◌, ◌==◌, nat_le, if◌then◌else◌, Option}
use Rattle.std.specs.Prelude.{Some, None}

-- from the first to the last, both with them
abbrev pub is_within : ℕ → ℕ → ℕ → Bool
is_within first last c = nat_le first c && nat_le c last

-- a Unicode scalar value: up to U+10FFFF, without the surrogates (RFC 9535, 2.1)
abbrev pub is_scalar : ℕ → Bool
is_scalar c = is_within 0 0xD7FF c || is_within 0xE000 0x10FFFF c

-- space, tab, line feed, carriage return (RFC 9535, 2.1.1)
abbrev pub is_blank : ℕ → Bool
is_blank c = c == 0x20 || c == 0x09 || c == 0x0A || c == 0x0D

-- `0` to `9` (RFC 9535, 2.1.1)
abbrev pub is_digit : ℕ → Bool
is_digit c = is_within 48 57 c

-- `1` to `9` (RFC 9535, 2.1.1)
abbrev pub is_positive_digit : ℕ → Bool
is_positive_digit c = is_within 49 57 c

-- `A` to `Z`
abbrev pub is_upper : ℕ → Bool
is_upper c = is_within 65 90 c

-- `a` to `z`
abbrev pub is_lower : ℕ → Bool
is_lower c = is_within 97 122 c

-- what a shorthand name begins with: a letter, `_`, or a scalar value from U+0080 up (RFC 9535, 2.5.1.1)
abbrev pub is_first : ℕ → Bool
is_first c = is_upper c || is_lower c || c == 95 || (nat_le 0x80 c && is_scalar c)

-- what follows in a shorthand name: the same, or a digit (RFC 9535, 2.5.1.1)
abbrev pub is_name_character : ℕ → Bool
is_name_character c = is_first c || is_digit c

-- what follows in a function's name: a lower-case letter, `_` or a digit (RFC 9535, 2.4)
abbrev pub is_function_character : ℕ → Bool
is_function_character c = is_lower c || c == 95 || is_digit c

-- `"` or `'`
abbrev pub is_quote : ℕ → Bool
is_quote c = c == 34 || c == 39

-- what stands for itself between these quotes: a scalar value from U+0020 up,
-- but neither the quote nor a backslash (RFC 9535, 2.3.1.1)
abbrev pub is_bare : ℕ → ℕ → Bool
is_bare quote c = nat_le 0x20 c && is_scalar c && not (c == quote) && not (c == 92)

-- what a backslash and this letter stand for between these quotes:
-- `b`, `f`, `n`, `r`, `t`, `/`, `\` and the quote itself (RFC 9535, 2.3.1.1)
abbrev pub escaped : ℕ → ℕ → Option ℕ
escaped quote letter =
    if letter == 98 then Some 0x08
    else if letter == 102 then Some 0x0C
    else if letter == 110 then Some 0x0A
    else if letter == 114 then Some 0x0D
    else if letter == 116 then Some 0x09
    else if letter == 47 then Some 47
    else if letter == 92 then Some 92
    else if letter == quote then Some quote
    else None

-- a hexadecimal digit, of either case (RFC 9535, 2.3.1.1)
abbrev pub is_hex_digit : ℕ → Bool
is_hex_digit c = is_digit c || is_within 65 70 c || is_within 97 102 c

-- the value of a hexadecimal digit
abbrev pub hex_value : ℕ → ℕ
hex_value c = if is_digit c then c - 48 else if is_upper c then c - 55 else c - 87

-- the number that four hexadecimal digits write
abbrev pub hex_number : ℕ → ℕ → ℕ → ℕ → ℕ
hex_number a b c d = ((hex_value a * 16 + hex_value b) * 16 + hex_value c) * 16 + hex_value d

-- the first of a pair of surrogates (RFC 9535, 2.3.1.1)
abbrev pub is_high_surrogate : ℕ → Bool
is_high_surrogate n = is_within 0xD800 0xDBFF n

-- the second of a pair of surrogates (RFC 9535, 2.3.1.1)
abbrev pub is_low_surrogate : ℕ → Bool
is_low_surrogate n = is_within 0xDC00 0xDFFF n

-- either of them: no Unicode scalar value
abbrev pub is_surrogate : ℕ → Bool
is_surrogate n = is_high_surrogate n || is_low_surrogate n

-- the scalar value that UTF-16 writes as these two surrogates
abbrev pub pair_value : ℕ → ℕ → ℕ
pair_value high low = 0x10000 + (high - 0xD800) * 0x400 + (low - 0xDC00)
