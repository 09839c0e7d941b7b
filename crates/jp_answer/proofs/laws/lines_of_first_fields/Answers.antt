use Rattle.jp_doc.specs.Lines.{lines}
use Rattle.jp_answer.proofs.NumberedAnswer.{numbered_answer, numbered_lines}
use Rattle.jp_answer.proofs.laws.lines_of_first_fields.Goals as goal

pub returns-clause-lines : goal.returns-clause-lines
returns-clause-lines c = numbered_answer

pub returns-clause-stream : goal.returns-clause-stream
returns-clause-stream c = λ n t q bytes few. numbered_answer n t q (lines bytes) (numbered_lines bytes few)
