use Rattle.jp_board.proofs.Runs.{not_claimed_twice, not_skipped, not_told_early, not_told_twice, not_risen}
use Rattle.jp_board.proofs.Runs.{not_invented}
use Rattle.jp_board.proofs.examples.states_that_are_not_lawful.Goals as goal

pub returns-clause-one_piece_claimed_twice : goal.returns-clause-one_piece_claimed_twice
returns-clause-one_piece_claimed_twice c = not_claimed_twice

pub returns-clause-a_piece_skipped : goal.returns-clause-a_piece_skipped
returns-clause-a_piece_skipped c = not_skipped

pub returns-clause-told_before_all_are_claimed : goal.returns-clause-told_before_all_are_claimed
returns-clause-told_before_all_are_claimed c = not_told_early

pub returns-clause-told_twice_for_one_seat : goal.returns-clause-told_twice_for_one_seat
returns-clause-told_twice_for_one_seat c = not_told_twice

pub returns-clause-least_above_a_look : goal.returns-clause-least_above_a_look
returns-clause-least_above_a_look c = not_risen

pub returns-clause-least_that_nobody_reported : goal.returns-clause-least_that_nobody_reported
returns-clause-least_that_nobody_reported c = not_invented
