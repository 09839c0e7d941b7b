use Rattle.std.proofs.Common.{sym}
use Rattle.jp_output.specs.OutputLine.{value_line}
use Rattle.jp_output.proofs.Fields.{value_one_line, lines_counted}
use Rattle.jp_output.proofs.ThirdFields.{values_of_lines}
use Rattle.jp_output.proofs.laws.values_are_third_fields.Goals as goal

pub returns-clause-third : goal.returns-clause-third
returns-clause-third c = λ l ns h. sym (values_of_lines l.0 ns h)

pub returns-clause-one_line : goal.returns-clause-one_line
returns-clause-one_line c = value_one_line

pub returns-clause-one_each : goal.returns-clause-one_each
returns-clause-one_each c = λ l ns. lines_counted value_line value_one_line ns
