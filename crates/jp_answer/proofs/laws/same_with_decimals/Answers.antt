use Rattle.jp_answer.proofs.Decimals.{same_answer, no_fault, none_passed}
use Rattle.jp_answer.proofs.laws.same_with_decimals.Goals as goal

pub returns-clause-answer : goal.returns-clause-answer
returns-clause-answer c = λ f k t q ls h. same_answer f t q k ls h

pub returns-clause-no_fault : goal.returns-clause-no_fault
returns-clause-no_fault c = no_fault

pub returns-clause-none_passed : goal.returns-clause-none_passed
returns-clause-none_passed c = none_passed
