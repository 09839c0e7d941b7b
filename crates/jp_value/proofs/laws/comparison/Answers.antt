use Rattle.jp_value.proofs.Sameness.{same_is_equal, self_same, equivalence}
use Rattle.jp_value.proofs.laws.comparison.Goals as goal

pub returns-clause-equivalence : goal.returns-clause-equivalence
returns-clause-equivalence c = equivalence

pub returns-clause-equality : goal.returns-clause-equality
returns-clause-equality c = same_is_equal

pub returns-clause-reflexive : goal.returns-clause-reflexive
returns-clause-reflexive c = self_same
