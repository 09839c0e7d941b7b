use Rattle.jp_check.proofs.Verdicts.{refuses_fraction, refuses_range, refuses_type, no_other_refusal}
use Rattle.jp_check.proofs.laws.refused_tree.Goals as goal

pub returns-clause-fraction : goal.returns-clause-fraction
returns-clause-fraction c = refuses_fraction

pub returns-clause-range : goal.returns-clause-range
returns-clause-range c = refuses_range

pub returns-clause-ill_typed : goal.returns-clause-ill_typed
returns-clause-ill_typed c = refuses_type

pub returns-clause-no_other : goal.returns-clause-no_other
returns-clause-no_other c = no_other_refusal
