use Rattle.std.proofs.Common.{rules}
use Rattle.jp_types.proofs.typing.serves_as.Goals as goal

pub returns-in-Value-Some-Value : goal.returns-in-Value-Some-Value
returns-in-Value-Some-Value c = search rules

pub returns-in-Value-Some-Value-3 : goal.returns-in-Value-Some-Value-3
returns-in-Value-Some-Value-3 c = search rules
