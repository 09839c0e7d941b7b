use Rattle.std.proofs.Common.{refl}
use Rattle.jp_pattern.proofs.TextExamples as text
use Rattle.jp_pattern.proofs.examples.sizes.Goals as goal

pub returns : goal.returns
returns c = record {
  thousand = (text.thousand_tree, text.thousand, refl);
  ten_thousand = (text.ten_thousand_tree, text.ten_thousand, refl);
  no_copies = (text.no_copies_tree, text.no_copies, refl);
  mixed = (text.mixed_tree, text.mixed, refl);
  two_or_more = (text.two_or_more_tree, text.two_or_more, refl);
  maybes = (text.maybes_tree, text.maybes, refl);
  nothing_in_depth = (text.nothing_in_depth_tree, text.nothing_in_depth, refl);
  never = (text.never_tree, text.never, refl);
  nothing = (text.nothing_tree, text.nothing, refl);
  some_letters = (text.some_letters_tree, text.some_letters, refl);
  one_or_more = (text.one_or_more_tree, text.one_or_more, refl);
  up_to_five = (text.up_to_five_tree, text.up_to_five, refl);
  sixty_four_parentheses = (_, text.sixty_four_parentheses, refl);
}
