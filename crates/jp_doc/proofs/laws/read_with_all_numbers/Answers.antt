use Rattle.jp_doc.proofs.ReadingInLaws.{same_reading, same_long_line}
use Rattle.jp_doc.proofs.laws.read_with_all_numbers.Goals as goal

pub returns-clause-value : goal.returns-clause-value
returns-clause-value c = same_reading

pub returns-clause-long_line : goal.returns-clause-long_line
returns-clause-long_line c = same_long_line
