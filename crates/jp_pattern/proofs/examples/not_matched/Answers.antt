use Rattle.std.proofs.Common.{refl}
use Rattle.jp_pattern.proofs.MemberExamples.{no_match, capital_A, small_a, small_b, digit_5}
use Rattle.jp_pattern.proofs.TextExamples as text
use Rattle.jp_pattern.proofs.examples.not_matched.Goals as goal

pub returns : goal.returns
returns c = record {
  nothing_else = no_match text.nothing refl;
  other_branch = no_match text.branch_or_nothing refl;
  two_hyphens = no_match text.hyphens refl;
  letter_for_hyphen = no_match text.hyphens refl;
  other_letter = no_match text.letters_and_hyphens refl;
  small_letter = no_match text.capitals (rw (capital_A, small_b) refl);
  line_feed = no_match text.not_line_feed refl;
  line_feed_for_dot = no_match text.any_character refl;
  carriage_return_for_dot = no_match text.any_character refl;
  surrogate_for_dot = no_match text.any_character refl;
  one_of_two = no_match text.two refl;
  three_of_two = no_match text.two refl;
  one_of_two_or_more = no_match text.two_or_more refl;
  three_of_at_most_two = no_match text.nested refl;
  letter_without_signs = no_match text.signs refl;
  small_letter_of_neither = no_match text.neither refl;
  digit_of_neither = no_match text.neither (rw digit_5 refl);
  letter_for_no_letter = no_match text.no_letter (rw small_a refl);
  something_without_copies = no_match text.no_copies refl;
}
