use Rattle.std.proofs.Common.{◌≡◌, ◌+◌, ◌<◌, ◌∷◌, map, All, vec_len}
use Rattle.jp_board.specs.Seats.{IsSeatOf, view_of}
use Rattle.jp_board.specs.Account.{SameAccount}
use Rattle.jp_board.proofs.board.Board.gather.Given as goal

abbrev pub invariant-loop-token : goal.invariant-loop-token
invariant-loop-token l =
    (l.all.table_id ≡ l.self.table.shared.table_id)
    × (0 < l.all.me.0.stands_for)
    × (l.all.me.0.stands_for + vec_len l.seats ≡ vec_len l.fn.seats)
    × All (IsSeatOf l.self) l.seats.items
    × SameAccount (map view_of l.fn.seats.items) (l.all.me.0 ∷ map view_of l.seats.items)

abbrev pub decreases-loop-token : goal.decreases-loop-token
decreases-loop-token l = vec_len l.seats
