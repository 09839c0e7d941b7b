use Rattle.std.proofs.Common.{refl}
use Rattle.jp_pattern.proofs.PatternsRead.{unread}
use Rattle.jp_pattern.proofs.TextExamples as text
use Rattle.jp_pattern.proofs.examples.refused.Goals as goal

pub returns : goal.returns
returns c = record {
  class_of_nothing = unread _ refl;
  empty_class = unread _ refl;
  range_that_falls = unread _ refl;
  unknown_escape = unread _ refl;
  two_quantities = unread _ refl;
  no_least = unread _ refl;
  open_parenthesis = unread _ refl;
  close_parenthesis = unread _ refl;
  close_bracket = unread _ refl;
  hyphen_in_the_middle = unread _ refl;
  hyphen_behind_category = unread _ refl;
  bracket_in_class = unread _ refl;
  quantity_first = unread _ refl;
  open_brace = unread _ refl;
  close_brace = unread _ refl;
  open_count = unread _ refl;
  backslash_at_the_end = unread _ refl;
  surrogates = unread _ refl;
  unknown_category = unread _ refl;
  category_without_braces = unread _ refl;
  group_with_flags = unread _ refl;
  eleven_thousand = text.eleven_thousand;
  count_too_great = text.count_too_great;
  least_too_great = text.least_too_great;
  bounds_that_fall = text.bounds_that_fall;
  sixty_five_parentheses = text.sixty_five_parentheses;
}
