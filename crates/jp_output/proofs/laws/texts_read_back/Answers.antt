use Rattle.jp_output.specs.UnquotedText.{text_line}
use Rattle.jp_output.proofs.Fields.{text_one_line, lines_counted}
use Rattle.jp_output.proofs.UnquotedTexts.{lines_differ}
use Rattle.jp_output.proofs.laws.texts_read_back.Goals as goal

pub returns-clause-different : goal.returns-clause-different
returns-clause-different c = lines_differ

pub returns-clause-one_line : goal.returns-clause-one_line
returns-clause-one_line c = text_one_line

pub returns-clause-one_each : goal.returns-clause-one_each
returns-clause-one_each c = λ l ns. lines_counted text_line text_one_line ns
