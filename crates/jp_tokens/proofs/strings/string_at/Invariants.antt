use Rattle.std.proofs.Common.{◌≡◌, length}
use Rattle.std.specs.Str.{chars}
use denote.Text.{Utf8}
use denote.Shadow.{shadow}
use Rattle.jp_tree.specs.View.{text_of}
use Rattle.jp_tokens.specs.Reading.{piece_at, string_at, all_of}
use Rattle.jp_tokens.proofs.strings.string_at.Given as goal

abbrev pub invariant-loop-found : goal.invariant-loop-found
invariant-loop-found l = shadow (Utf8 l.rest)
    × (string_at l.quote (chars l.fn.text) ≡ all_of (piece_at l.quote) (text_of l.found) (chars l.rest))

abbrev pub decreases-loop-found : goal.decreases-loop-found
decreases-loop-found l = length (chars l.rest)
