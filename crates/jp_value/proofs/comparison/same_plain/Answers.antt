use Rattle.std.proofs.Common.{rules}
use Rattle.jp_value.proofs.comparison.same_plain.Goals as goal

pub returns-in-Nothing-Nothing : goal.returns-in-Nothing-Nothing
returns-in-Nothing-Nothing c = search rules
