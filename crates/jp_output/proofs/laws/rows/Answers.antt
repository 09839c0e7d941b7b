use Rattle.jp_output.specs.Rows.{row_line}
use Rattle.jp_output.proofs.Fields.{lines_counted}
use Rattle.jp_output.proofs.RowBytes.{row_tabs, row_one_line}
use Rattle.jp_output.proofs.laws.rows.Goals as goal

pub returns-clause-tabs : goal.returns-clause-tabs
returns-clause-tabs c = λ f fs n h. row_tabs f fs n.value h

pub returns-clause-one_line : goal.returns-clause-one_line
returns-clause-one_line c = λ fs n h. row_one_line fs n.value h

pub returns-clause-one_each : goal.returns-clause-one_each
returns-clause-one_each c = λ fs l ns. lines_counted (row_line fs) (λ n h. row_one_line fs n.value h) ns
