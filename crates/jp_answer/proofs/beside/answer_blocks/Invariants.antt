use Rattle.jp_board.specs.Seats.{IsSeatOf}
use Rattle.jp_answer.proofs.beside.answer_blocks.Given as goal

abbrev pub invariant-loop-claim : goal.invariant-loop-claim
invariant-loop-claim g l = IsSeatOf l.board l.own
