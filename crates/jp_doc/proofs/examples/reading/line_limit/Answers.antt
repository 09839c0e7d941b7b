use Rattle.jp_doc.proofs.ReadingLaws.{line_at_the_limit, line_above_the_limit}
use Rattle.jp_doc.proofs.examples.reading.line_limit.Goals as goal

pub returns-clause-at : goal.returns-clause-at
returns-clause-at c = line_at_the_limit

pub returns-clause-above : goal.returns-clause-above
returns-clause-above c = line_above_the_limit
