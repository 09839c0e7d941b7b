-- A JSON number (RFC 8259, 6), its value as a fraction of whole numbers, the order of two, and its text.
use Rattle.std.specs.Prelude.{ℕ, ◌+◌, ◌*◌, ◌^◌, ◌≤◌, ◌==◌, nat_le, ℤ, pos, ◌*ℤ◌, Bool, true, ◌&&◌, List}
use Rattle.std.specs.Prelude.{length, drop}
use Rattle.std.specs.Prelude.{slice_index}
use Rattle.std.specs.Prelude.{if◌then◌else◌}
use Rattle.std.specs.Fmt.{signed_decimal}
use Rattle.std.specs.Ordering.{int_cmp, is_eq, is_lt}
use Rattle.std.specs.declared.cmp.Ordering.{Ordering}
use Rattle.fast_float.specs.Text.{Parts, scan, digits_of, tens_up, tens_down, with_sign}

-- a whole number, or one by the bytes of the text that writes it
pub data Number : Type 0 where
  whole : ℤ → Number
  written : List ℕ → Number

-- a minus stands first
abbrev pub is_negative : List ℕ → Bool
is_negative s = slice_index s 0 == 45

-- the digits before the point, behind it and of the exponent, with the exponent's sign
abbrev pub parts : List ℕ → Parts
parts s = scan (if is_negative s then drop 1 s else s)

-- The value is top n / bottom n: that of a text is all its digits as one number, which a power of ten
-- multiplies or divides.
unfoldable pub top : Number → ℤ
top (whole z) = z
top (written s) = with_sign (is_negative s) (digits_of (parts s) * 10 ^ tens_up (parts s))

unfoldable pub bottom : Number → ℕ
bottom (whole z) = 1
bottom (written s) = 10 ^ tens_down (parts s)

-- the order of the values, by fractions that are multiplied crosswise
unfoldable pub order : Number → Number → Ordering
order n m = int_cmp (top n *ℤ pos (bottom m)) (top m *ℤ pos (bottom n))

-- two numbers have one value; the first is less
abbrev pub is_equal : Number → Number → Bool
is_equal n m = is_eq (order n m)

abbrev pub is_below : Number → Number → Bool
is_below n m = is_lt (order n m)

-- The text of a number: of a whole one its digits, behind a minus where it is below zero, and of any other
-- the text that writes it.
abbrev pub number_text : Number → List ℕ
number_text (whole z) = signed_decimal z
number_text (written s) = s

-- The limits, which RFC 8259 leaves to each reader: the most digits in all, and in the exponent.
abbrev pub max_digits : ℕ
max_digits = 1000

abbrev pub max_exponent : ℕ
max_exponent = 9

pub record HasFewDigits (p : Parts) : Type 0 where
  pub all : length p.whole + length p.fraction + length p.exponent ≤ max_digits
  pub exponent : length p.exponent ≤ max_exponent

-- a text is within the limits; a whole number always is
abbrev pub IsShort : Number → Type 0
IsShort (whole z) = Unit {0}
IsShort (written s) = HasFewDigits (parts s)

-- the same as a test
abbrev pub are_few : Parts → Bool
are_few p = nat_le (length p.whole + length p.fraction + length p.exponent) max_digits
    && nat_le (length p.exponent) max_exponent

abbrev pub is_short : Number → Bool
is_short (whole z) = true
is_short (written s) = are_few (parts s)
