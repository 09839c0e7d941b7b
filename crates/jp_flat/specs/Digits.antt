-- The whole number that a text is (RFC 8259, 6): digits, perhaps behind a minus.
use Rattle.std.specs.Prelude.{ℕ, ℤ, pos, neg_ℤ, ◌==◌, List, drop, slice_index, if◌then◌else◌}
use Rattle.std.specs.Str.Parse.{digits_value}

abbrev pub whole_value : List ℕ → ℤ
whole_value s =
    if slice_index s 0 == 45 then neg_ℤ (pos (digits_value 10 (drop 1 s))) else pos (digits_value 10 s)
