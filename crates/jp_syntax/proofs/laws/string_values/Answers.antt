use Rattle.jp_tokens.proofs.OneValue.{one_value}
use Rattle.jp_syntax.proofs.StringLaws.{string_scalar}
use Rattle.jp_syntax.proofs.laws.string_values.Goals as goal

pub returns-clause-one : goal.returns-clause-one
returns-clause-one c = one_value

pub returns-clause-scalar : goal.returns-clause-scalar
returns-clause-scalar c = string_scalar
