-- Which characters a set holds.
use Rattle.std.specs.Prelude.{ℕ, Bool, not, ◌&&◌, ◌||◌, ◌==◌, nat_le, nat_lt, List, if◌then◌else◌}
use Rattle.std.specs.List.{list_any}
use Rattle.unicode.specs.GeneralCategory.{general_category, general_category_eq}
use Rattle.unicode.specs.declared.properties.GeneralCategory.{GeneralCategory}
use Rattle.jp_pattern.specs.Pattern.{Element, one, range, of_category, CharSet, only, dot, category, class}

-- a Unicode scalar value: a code point that is no surrogate (RFC 9485, 3)
abbrev pub is_scalar : ℕ → Bool
is_scalar c = nat_lt c 0xd800 || (nat_le 0xe000 c && nat_le c 0x10ffff)

-- every other character where the flag is set (RFC 9485, 4)
abbrev pub negated_if : Bool → Bool → Bool
negated_if negated holds = if negated then not holds else holds

-- the character's general category is one of these (RFC 9485, 4)
abbrev pub in_categories : List GeneralCategory → ℕ → Bool
in_categories categories c = list_any (general_category_eq (general_category c)) categories

-- what an element of a class holds (RFC 9485, 4)
abbrev pub in_element : ℕ → Element → Bool
in_element c (one x) = c == x
in_element c (range low high) = nat_le low c && nat_le c high
in_element c (of_category negated categories) = negated_if negated (in_categories categories c)

-- what a set holds, among the characters; `.` holds all but LF and CR (RFC 9485, 4)
abbrev pub holds : CharSet → ℕ → Bool
holds (only x) c = c == x
holds dot c = not (c == 0x0a || c == 0x0d)
holds (category negated categories) c = negated_if negated (in_categories categories c)
holds (class negated elements) c = negated_if negated (list_any (in_element c) elements)

-- the character is in the set; a number that is no character is in none (RFC 9485, 4)
abbrev pub in_set : CharSet → ℕ → Bool
in_set set c = is_scalar c && holds set c
