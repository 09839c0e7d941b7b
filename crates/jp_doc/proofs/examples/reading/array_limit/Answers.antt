use Rattle.jp_doc.proofs.ReadingLaws.{array_at_the_limit, array_above_the_limit}
use Rattle.jp_doc.proofs.examples.reading.array_limit.Goals as goal

pub returns-clause-at : goal.returns-clause-at
returns-clause-at c = array_at_the_limit

pub returns-clause-above : goal.returns-clause-above
returns-clause-above c = array_above_the_limit
