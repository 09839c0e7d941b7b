use Rattle.std.proofs.Common.{arith}
use Rattle.std.proofs.lemmas.Grind.{common_steps}
use Rattle.jp_found.proofs.different.locate.Goals as goal

pub returns-else-is_none-clause-locations : goal.returns-else-is_none-clause-locations
returns-else-is_none-clause-locations c = grind (arith, common_steps)

pub returns-then-is_none-clause-locations : goal.returns-then-is_none-clause-locations
returns-then-is_none-clause-locations c = grind (arith, common_steps)
