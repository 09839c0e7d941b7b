use Rattle.jp_run.proofs.Cuttings.{last_behind}
use Rattle.jp_run.proofs.Parts.{parts_go_on, parts_stop}
use Rattle.jp_run.proofs.laws.parts.Goals as goal

pub returns-clause-goes_on : goal.returns-clause-goes_on
returns-clause-goes_on c = λ going asked xs ys a b ended none h k.
    parts_go_on going asked xs ys ended a b none h k

pub returns-clause-stops : goal.returns-clause-stops
returns-clause-stops c = λ going asked xs ys a s ended stop h. parts_stop going asked xs ys ended a s stop h

pub returns-clause-numbers : goal.returns-clause-numbers
returns-clause-numbers c = λ going xs ys ended. last_behind going.numbering xs ys ended
