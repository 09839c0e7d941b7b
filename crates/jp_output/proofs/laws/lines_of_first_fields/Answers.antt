use Rattle.jp_output.proofs.NumberedLines.{lines_are}
use Rattle.jp_output.proofs.laws.lines_of_first_fields.Goals as goal

pub returns : goal.returns
returns c = lines_are 0
