-- The loop over the pieces of a string gets on.
use Rattle.std.proofs.Common.{ℕ}
use Rattle.jp_tree.specs.Strings.{Piece}
use Rattle.jp_tokens.specs.Reading.{piece_at}
use Rattle.jp_tokens.proofs.LeavesRead.{Close, piece_sound, piece_some}
use Rattle.jp_tokens.proofs.Turns.{GetsOn, gets_on}

pub pieces_get_on : (quote : ℕ) → GetsOn (piece_at quote)
pieces_get_on quote = gets_on (piece_at quote) (Piece quote) (Close quote) (piece_sound quote)
    (piece_some quote)
