use Rattle.std.proofs.Common.{rules}
use Rattle.jp_value.proofs.functions.searches.Goals as goal

pub returns-in-Some-Some : goal.returns-in-Some-Some
returns-in-Some-Some c = search rules
