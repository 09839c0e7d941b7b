use Rattle.jp_pattern.proofs.TextExamples as text
use Rattle.jp_pattern.proofs.examples.shapes.Goals as goal

pub returns : goal.returns
returns c = record {
  nothing = text.nothing.shapes;
  branch_or_nothing = text.branch_or_nothing.shapes;
  hyphens = text.hyphens.shapes;
  letters_and_hyphens = text.letters_and_hyphens.shapes;
  capitals = text.capitals.shapes;
  not_line_feed = text.not_line_feed.shapes;
  any_character = text.any_character.shapes;
  two = text.two.shapes;
  two_or_more = text.two_or_more.shapes;
  nested = text.nested.shapes;
  signs = text.signs.shapes;
  any_between = text.any_between.shapes;
  neither = text.neither.shapes;
  no_letter = text.no_letter.shapes;
  some_letters = text.some_letters.shapes;
  caret_later = text.caret_later.shapes;
  escaped_caret = text.escaped_caret.shapes;
  two_carets = text.two_carets.shapes;
  hyphen_first = text.hyphen_first.shapes;
  branches = text.branches.shapes;
  escapes = text.escapes.shapes;
  three_to_five = text.three_to_five.shapes;
}
