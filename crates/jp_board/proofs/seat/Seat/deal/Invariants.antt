use Rattle.std.proofs.Common.{◌≡◌, ◌+◌, ◌≤◌, [], All, vec_len, vec_capacity}
use Rattle.jp_board.specs.Seats.{IsAt, IsFresh}
use Rattle.jp_board.specs.Views.{fresh}
use Rattle.jp_board.proofs.seat.Seat.deal.Given as goal

abbrev pub invariant-loop-done : goal.invariant-loop-done
invariant-loop-done l =
    (l.first.table_id ≡ l.table.shared.table_id)
    × (l.first.me ≡ (fresh l.table.shared.key.0 l.table.shared.key.1 l.first.me.0.stands_for, []))
    × (l.first.me.0.stands_for + l._done ≡ l.seats + 1)
    × (vec_len l.dealt + 1 ≡ l._done)
    × (l.seats ≤ vec_capacity l.dealt)
    × All (IsAt l.table.shared.table_id l.table.shared.key.0 l.table.shared.key.1) l.dealt.items
    × All (IsFresh l.table.shared.key.0 l.table.shared.key.1) l.dealt.items
