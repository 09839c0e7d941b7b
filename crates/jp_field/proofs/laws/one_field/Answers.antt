use Rattle.jp_field.proofs.OneField.{not_refused, one_each, one_path}
use Rattle.jp_field.proofs.laws.one_field.Goals as goal

pub returns-clause-one : goal.returns-clause-one
returns-clause-one c = one_path

pub returns-clause-not_refused : goal.returns-clause-not_refused
returns-clause-not_refused c = not_refused

pub returns-clause-each : goal.returns-clause-each
returns-clause-each c = one_each
