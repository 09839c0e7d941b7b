-- What a seat and a board show, and which seats are a board's.
use Rattle.std.specs.Prelude.{◌≡◌, ℕ, ◌<◌}
use Rattle.atomic_table.specs.Seated.{TableId}
use Rattle.jp_board.specs.declared.board.Board.{Board}
use Rattle.jp_board.specs.declared.seat.Seat.{Seat}
use Rattle.jp_board.specs.declared.view.View.{View}
use Rattle.jp_board.specs.Views.{fresh}

-- what the seat knows
abbrev pub view_of : Seat → View
view_of s = s.token.me.0

-- how many pieces the board has
abbrev pub pieces_of : Board → ℕ
pieces_of b = b.pieces

-- how many seats were made for the board
abbrev pub made_of : Board → ℕ
made_of b = b.made

-- the seat is at this table, of a board of that many pieces and seats
abbrev pub IsAt : TableId → ℕ → ℕ → Seat → Type 0
IsAt table pieces made s = (s.token.table_id ≡ table) × ((view_of s).pieces ≡ pieces)
    × ((view_of s).made ≡ made)

-- the seat is one of this board's
abbrev pub IsSeatOf : Board → Seat → Type 0
IsSeatOf b s = IsAt b.table.shared.table_id b.pieces b.made s

-- the seat has done nothing
abbrev pub IsFresh : ℕ → ℕ → Seat → Type 0
IsFresh pieces made s = view_of s ≡ fresh pieces made 1

-- the seat was told that no piece is left
abbrev pub WasTold : Seat → Type 0
WasTold s = 0 < (view_of s).told
