use Rattle.std.proofs.Common.{refl}
use Rattle.jp_pattern.proofs.MemberExamples.{matches, capital_A, capital_B, digit_1}
use Rattle.jp_pattern.proofs.TextExamples as text
use Rattle.jp_pattern.proofs.examples.matched.Goals as goal

pub returns : goal.returns
returns c = record {
  empty_text = matches text.nothing refl;
  first_branch = matches text.branch_or_nothing refl;
  empty_branch = matches text.branch_or_nothing refl;
  hyphen = matches text.hyphens refl;
  letters_and_hyphens = matches text.letters_and_hyphens refl;
  capitals = matches text.capitals (rw (capital_A, capital_B) refl);
  carriage_return = matches text.not_line_feed refl;
  last_character = matches text.any_character refl;
  no_copies = matches text.no_copies refl;
  two = matches text.two refl;
  two_of_two_or_more = matches text.two_or_more refl;
  three_of_two_or_more = matches text.two_or_more refl;
  nested_empty = matches text.nested refl;
  nested_letters = matches text.nested refl;
  signs = matches text.signs refl;
  any_between = matches text.any_between refl;
  neither = matches text.neither (rw capital_A refl);
  no_letter = matches text.no_letter (rw digit_1 refl);
}
