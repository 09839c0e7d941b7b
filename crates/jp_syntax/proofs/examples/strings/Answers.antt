use Rattle.std.proofs.Common.{refl}
use Rattle.jp_syntax.proofs.Computed.{string}
use Rattle.jp_tokens.specs.Reading.{piece_at, escape_at, unicode_at, pair_at, hex_at, mark_at, all_of, many}
use Rattle.jp_syntax.proofs.examples.strings.Goals as goal

pub returns : goal.returns
unfolding piece_at escape_at unicode_at pair_at hex_at mark_at all_of many
returns c = record {
  empty = string _ _ _ refl refl;
  empty_double = string _ _ _ refl refl;
  bare = string _ _ _ refl refl;
  other_quotes = string _ _ _ refl refl;
  other_quotes_in_double = string _ _ _ refl refl;
  escapes = string _ _ _ refl refl;
  escaped_marks = string _ _ _ refl refl;
  escaped_marks_in_double = string _ _ _ refl refl;
  hexadecimal = string _ _ _ refl refl;
  beside_surrogates = string _ _ _ refl refl;
  first_pair = string _ _ _ refl refl;
  last_pair = string _ _ _ refl refl;
}
