-- The rule of the table under a board: whatever steps were taken, the board is where its events have led.
use Rattle.std.specs.Prelude.{◌≡◌, ℕ, ◌≤◌, length, slice_index}
use Rattle.atomic_table.specs.Table.{State}
use Rattle.jp_board.specs.declared.view.View.{View}
use Rattle.jp_board.specs.Events.{BoardState, IsReached}
use Rattle.jp_board.specs.Limits.{max_pieces, max_seats}

-- the state of the board whose words and views a table holds
abbrev pub state_of : State (Unit {0}) View → BoardState
state_of s = record { next = slice_index s.words 0; least = slice_index s.words 1; views = s.views }

-- There are not too many pieces and seats, and events have led to the table's state from the first one. Its
-- two words are `next` and `least`; its key is the number of pieces and that of the seats.
pub record Holds (key : ℕ × ℕ) (s : State (Unit {0}) View) : Type 0 where
  pub words : length s.words ≡ 2
  pub in_range : (key.0 ≤ max_pieces) × (key.1 ≤ max_seats)
  pub reached : IsReached key.0 key.1 (state_of s)
