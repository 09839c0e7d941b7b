-- The numbers of a query: fractions and ranges (RFC 9535, 2.1).
use Rattle.std.specs.Prelude.{ℕ, ◌+◌, ◌*◌, ◌-◌, ◌||◌, ◌&&◌, ◌==◌, nat_le, Bool, false, ℤ, pos, neg_ℤ, List}
use Rattle.std.specs.Prelude.{[], ◌∷◌, ◌++◌, Option, count_by, option_to_list, map, if◌then◌else◌, not}
use Rattle.std.specs.Prelude.{true, encode_utf8_all}
use Rattle.std.specs.List.{list_any, list_all}
use Rattle.jp_number.specs.Number.{Number, whole, written, is_short}
use Rattle.jp_number.specs.declared.numbers.Numbers.{Numbers}
use Rattle.jp_number.specs.declared.numbers.Numbers.TheVariants.{Whole, Decimals}
use Rattle.jp_tree.specs.Tree.{Text, Literal, number, text, truth, null, Query, query, Segment, segment}
use Rattle.jp_tree.specs.Tree.{Selector, name, wildcard, index, slice, filter, Logical, any, all, negation}
use Rattle.jp_tree.specs.Tree.{comparing, test, test_call, Comparison, comparison, Comparable, literal}
use Rattle.jp_tree.specs.Tree.{single, value_call, Call, call, Argument, literal_argument, query_argument}
use Rattle.jp_tree.specs.Tree.{logical_argument, call_argument, Segments, no_segments, add_segment}
use Rattle.jp_tree.specs.Tree.{Selectors, no_selectors, add_selector, Logicals, no_logicals, add_logical}
use Rattle.jp_tree.specs.Tree.{Arguments, no_arguments, add_argument}

-- a number as it is written in a query: a literal, or an index or a part of a slice
pub data Written : Type 0 where
  literal_number : Text → Written
  position : Text → Written

abbrev pub part_of_slice : Option Text → List Written
part_of_slice part = map position (option_to_list part)

abbrev pub literal_numbers : Literal → List Written
literal_numbers (number t) = literal_number t ∷ []
literal_numbers (text t) = []
literal_numbers (truth b) = []
literal_numbers null = []

-- all numbers of a query, however deep, in the order of the text
abbrev mutual
  pub query_numbers : Query → List Written
  query_numbers (query start ss) = segments_numbers ss

  pub segments_numbers : Segments → List Written
  segments_numbers no_segments = []
  segments_numbers (add_segment s ss) = segment_numbers s ++ segments_numbers ss

  pub segment_numbers : Segment → List Written
  segment_numbers (segment deep xs) = selectors_numbers xs

  pub selectors_numbers : Selectors → List Written
  selectors_numbers no_selectors = []
  selectors_numbers (add_selector x xs) = selector_numbers x ++ selectors_numbers xs

  pub selector_numbers : Selector → List Written
  selector_numbers (name k) = []
  selector_numbers wildcard = []
  selector_numbers (index t) = position t ∷ []
  selector_numbers (slice first past step) = part_of_slice first ++ (part_of_slice past ++ part_of_slice step)
  selector_numbers (filter l) = logical_numbers l

  pub logical_numbers : Logical → List Written
  logical_numbers (any ls) = logicals_numbers ls
  logical_numbers (all ls) = logicals_numbers ls
  logical_numbers (negation l) = logical_numbers l
  logical_numbers (comparing c) = comparison_numbers c
  logical_numbers (test q) = query_numbers q
  logical_numbers (test_call c) = call_numbers c

  pub logicals_numbers : Logicals → List Written
  logicals_numbers no_logicals = []
  logicals_numbers (add_logical l ls) = logical_numbers l ++ logicals_numbers ls

  pub comparison_numbers : Comparison → List Written
  comparison_numbers (comparison left operator right) = comparable_numbers left ++ comparable_numbers right

  pub comparable_numbers : Comparable → List Written
  comparable_numbers (literal x) = literal_numbers x
  comparable_numbers (single q) = query_numbers q
  comparable_numbers (value_call c) = call_numbers c

  pub call_numbers : Call → List Written
  call_numbers (call function given) = arguments_numbers given

  pub arguments_numbers : Arguments → List Written
  arguments_numbers no_arguments = []
  arguments_numbers (add_argument a others) = argument_numbers a ++ arguments_numbers others

  pub argument_numbers : Argument → List Written
  argument_numbers (literal_argument x) = literal_numbers x
  argument_numbers (query_argument q) = query_numbers q
  argument_numbers (logical_argument l) = logical_numbers l
  argument_numbers (call_argument c) = call_numbers c

abbrev pub is_digit : ℕ → Bool
is_digit c = nat_le 48 c && nat_le c 57

-- the value of digits, read on from a number
abbrev pub digits_from : ℕ → Text → ℕ
digits_from n [] = n
digits_from n (c ∷ cs) = digits_from (n * 10 + (c - 48)) cs

-- the digits without the sign
abbrev pub unsigned_digits : Text → Text
unsigned_digits [] = []
unsigned_digits (c ∷ cs) = if c == 45 then cs else c ∷ cs

-- how far from zero a written whole number is
abbrev pub magnitude : Text → ℕ
magnitude t = digits_from 0 (unsigned_digits t)

abbrev pub is_negative : Text → Bool
is_negative [] = false
is_negative (c ∷ cs) = c == 45

-- the whole number that a text of digits, perhaps with a sign, is; `-0` is 0
abbrev pub whole_number : Text → ℤ
whole_number t = if is_negative t then neg_ℤ (pos (magnitude t)) else pos (magnitude t)

-- it has a fraction or an exponent: a full stop, an `e` or an `E`
abbrev pub is_fraction : Written → Bool
is_fraction (literal_number t) = list_any (λ c. (c == 46) || (c == 101) || (c == 69)) t
is_fraction (position t) = false

-- the greatest index, 2 ^ 53 - 1 (RFC 7493, 2.2), and the most digits of a whole literal
abbrev pub max_index : ℕ
max_index = 9007199254740991

abbrev pub max_digits : ℕ
max_digits = 38

-- A literal is short enough: where numbers are whole it has at most 38 digits, and else it is within the
-- limits of all numbers (RFC 8259, 6), as the bytes that write it.
abbrev pub is_short_in : Numbers → Text → Bool
is_short_in Whole t = nat_le (count_by is_digit t) max_digits
is_short_in Decimals t = is_short (written (encode_utf8_all t))

abbrev pub is_in_range_in : Numbers → Written → Bool
is_in_range_in numbers (literal_number t) = is_short_in numbers t
is_in_range_in numbers (position t) = nat_le (magnitude t) max_index

abbrev pub is_in_range : Written → Bool
is_in_range n = is_in_range_in Whole n

-- some number literal has a fraction or an exponent
abbrev pub has_fraction : Query → Bool
has_fraction q = list_any is_fraction (query_numbers q)

-- fractions and exponents are refused: numbers are whole
abbrev pub are_whole : Numbers → Bool
are_whole Whole = true
are_whole Decimals = false

-- every index and slice number is in its range, and no number literal is too long
abbrev pub in_range_in : Numbers → Query → Bool
in_range_in numbers q = list_all (is_in_range_in numbers) (query_numbers q)

abbrev pub in_range : Query → Bool
in_range q = in_range_in Whole q

-- a literal has no fraction, no exponent and at most 38 digits
abbrev pub is_whole : Text → Bool
is_whole t = not (is_fraction (literal_number t)) && is_short_in Whole t

-- the number that a literal is (RFC 9535, 2.3.5.1)
abbrev pub number_value : Text → Number
number_value t = if is_whole t then whole (whole_number t) else written (encode_utf8_all t)
