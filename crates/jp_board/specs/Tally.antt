-- What is known of the seats once the board is closed, and what is handed back where it is not.
use Rattle.std.specs.Prelude.{◌≡◌, ℕ, ◌<◌, ◌≤◌, List, All, Contains, IsPermutation}
use Rattle.jp_board.specs.declared.board.Board.{Board}
use Rattle.jp_board.specs.declared.fault.CloseFault.{CloseFault}
use Rattle.jp_board.specs.declared.fault.CloseFault.TheVariants.{Missing}
use Rattle.jp_board.specs.declared.seat.Seat.{Seat}
use Rattle.jp_board.specs.declared.view.View.{View}
use Rattle.jp_board.specs.Lawful.{IsMark}
use Rattle.jp_board.specs.Together.{all_claims, all_reports, all_looks, times_told, numbers_below}

-- the account that a tally gives of the views of all seats
pub record Tallies (pieces claimed least : ℕ) (views : List View) : Type 0 where
  -- the claims are the numbers below `claimed`, each once
  pub claimed_once : IsPermutation (numbers_below claimed) (all_claims views)
  -- they are all pieces where anybody was told that none is left
  pub all_claimed : 0 < times_told views → claimed ≡ pieces
  -- neither number is above that of the pieces
  pub within : (claimed ≤ pieces) × (least ≤ pieces)
  -- what was reported was claimed
  pub reports_claimed : All (Contains (all_claims views)) (all_reports views)
  -- `least` is the least report, or the number of pieces, and no look was lower
  pub mark : IsMark pieces least (all_reports views) (all_looks views)

-- the board and the seats, as they were
abbrev pub HandsBack : Board → List Seat → CloseFault → Type 0
HandsBack b seats (Missing board back) = (board ≡ b) × (back.items ≡ seats)
