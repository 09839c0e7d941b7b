-- Digits, and which numbers are read in one pass (RFC 8259, 6): whole ones that are short enough for 64 bits
-- whatever their digits are, or such that are within the limits whatever they are.
use Rattle.std.specs.Prelude.{ℕ, ◌-◌, Bool, not, ◌&&◌, ◌||◌, ◌==◌, nat_lt, nat_le, List, length, take}
use Rattle.std.specs.Prelude.{drop, slice_index}
use Rattle.std.specs.Prelude.{if◌then◌else◌}
use Rattle.std.specs.Char.{is_ascii_digit}
use Rattle.std.specs.List.{list_all}

-- some digits, of which the first is no zero before others
abbrev pub are_digits : List ℕ → Bool
are_digits ds =
    nat_lt 0 (length ds)
    && (list_all is_ascii_digit ds && (nat_le (length ds) 1 || not (slice_index ds 0 == 48)))

-- at most 18 of them
abbrev pub are_few_digits : List ℕ → Bool
are_few_digits ds = are_digits ds && nat_le (length ds) 18

-- so many, perhaps behind a minus: then they are not 0
abbrev pub is_short_whole : List ℕ → Bool
is_short_whole s =
    if slice_index s 0 == 45 then are_few_digits (drop 1 s) && not (slice_index (drop 1 s) 0 == 48)
    else are_few_digits s

-- no `e` begins an exponent here
abbrev pub is_no_e : ℕ → Bool
is_no_e x = not ((x == 101) || (x == 69))

-- A number of so few bytes, with an exponent, if any, in its last ten: so it is within the limits of numbers.
abbrev pub is_close : List ℕ → Bool
is_close s = nat_le (length s) 300 && list_all is_no_e (take (length s - 10) s)

-- which numbers are read: with decimals such ones, and else whole ones of few digits
abbrev pub is_taken : Bool → List ℕ → Bool
is_taken decimals s = if decimals then is_close s else is_short_whole s
