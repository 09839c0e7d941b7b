use Rattle.jp_number.proofs.Order.{whole_order, whole_equal, whole_below}
use Rattle.jp_number.proofs.laws.whole_numbers.Goals as goal

pub returns-clause-order : goal.returns-clause-order
returns-clause-order c = whole_order

pub returns-clause-equal : goal.returns-clause-equal
returns-clause-equal c = whole_equal

pub returns-clause-below : goal.returns-clause-below
returns-clause-below c = whole_below
