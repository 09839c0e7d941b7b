use Rattle.jp_board.proofs.Runs.{told_no_claim, unclaimed_no_report, spent_no_look, worked_no_split}
use Rattle.jp_board.proofs.Runs.{itself_no_join}
use Rattle.jp_board.proofs.examples.steps_that_may_not_be.Goals as goal

pub returns-clause-claim_of_the_told : goal.returns-clause-claim_of_the_told
returns-clause-claim_of_the_told c = told_no_claim

pub returns-clause-report_of_the_unclaimed : goal.returns-clause-report_of_the_unclaimed
returns-clause-report_of_the_unclaimed c = unclaimed_no_report

pub returns-clause-look_of_the_spent : goal.returns-clause-look_of_the_spent
returns-clause-look_of_the_spent c = spent_no_look

pub returns-clause-split_of_a_worker : goal.returns-clause-split_of_a_worker
returns-clause-split_of_a_worker c = worked_no_split

pub returns-clause-join_with_itself : goal.returns-clause-join_with_itself
returns-clause-join_with_itself c = itself_no_join
