use Rattle.std.proofs.Common.{refl}
use Rattle.jp_syntax.proofs.Computed.{no_strings}
use Rattle.jp_tokens.specs.Reading.{piece_at, escape_at, unicode_at, pair_at, hex_at, mark_at, all_of, many}
use Rattle.jp_syntax.proofs.examples.texts_that_are_no_strings.Goals as goal

pub returns : goal.returns
unfolding piece_at escape_at unicode_at pair_at hex_at mark_at all_of many
returns c = record {
  no_quotes = no_strings _ refl;
  unclosed = no_strings _ refl;
  more_behind = no_strings _ refl;
  other_quote_escaped = no_strings _ refl;
  unknown_escapes = no_strings _ refl;
  controls = no_strings _ refl;
  short_numbers = no_strings _ refl;
  lone_high = no_strings _ refl;
  lone_low = no_strings _ refl;
  high_and_no_low = no_strings _ refl;
  high_and_past_low = no_strings _ refl;
  high_and_no_number = no_strings _ refl;
}
