use Rattle.jp_board.specs.Seats.{IsSeatOf}
use Rattle.jp_board_tests.proofs.threads.claims_all.Given as goal

abbrev pub invariant-loop : goal.invariant-loop
invariant-loop l = IsSeatOf l.board l.seat
