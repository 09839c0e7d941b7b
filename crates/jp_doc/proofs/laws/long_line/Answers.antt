use Rattle.jp_doc.proofs.ReadingLaws.{long_line_refused, long_line_is_long}
use Rattle.jp_doc.proofs.laws.long_line.Goals as goal

pub returns-clause-refused : goal.returns-clause-refused
returns-clause-refused c = long_line_refused

pub returns-clause-no_other : goal.returns-clause-no_other
returns-clause-no_other c = long_line_is_long
