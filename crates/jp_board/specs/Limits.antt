-- How large a board is at most. The word `next` counts its pieces, and one more for each seat: under these
-- limits it is far from where 64 bits end.
use Rattle.std.specs.Prelude.{ℕ}

abbrev pub max_pieces : ℕ
max_pieces = 4294967296

abbrev pub max_seats : ℕ
max_seats = 64
