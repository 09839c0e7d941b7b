use Rattle.jp_board.proofs.Tallying.{least_reported, least_below, none_reported, reports_below}
use Rattle.jp_board.proofs.laws.least_of_a_tally.Goals as goal

pub returns-clause-reported : goal.returns-clause-reported
returns-clause-reported c = least_reported

pub returns-clause-lowest : goal.returns-clause-lowest
returns-clause-lowest c = least_below

pub returns-clause-none : goal.returns-clause-none
returns-clause-none c = none_reported

pub returns-clause-below : goal.returns-clause-below
returns-clause-below c = reports_below
