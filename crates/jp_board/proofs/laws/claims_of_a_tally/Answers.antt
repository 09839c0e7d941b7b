use Rattle.jp_board.proofs.Tallying.{claims_each, claims_below, claims_once, claims_all}
use Rattle.jp_board.proofs.laws.claims_of_a_tally.Goals as goal

pub returns-clause-each : goal.returns-clause-each
returns-clause-each c = claims_each

pub returns-clause-below : goal.returns-clause-below
returns-clause-below c = claims_below

pub returns-clause-once : goal.returns-clause-once
returns-clause-once c = claims_once

pub returns-clause-all : goal.returns-clause-all
returns-clause-all c = claims_all
