use Rattle.std.proofs.Common.{rules}
use Rattle.jp_value.proofs.functions.matches_known.Goals as goal

pub returns-in-Some : goal.returns-in-Some
returns-in-Some c = search rules
