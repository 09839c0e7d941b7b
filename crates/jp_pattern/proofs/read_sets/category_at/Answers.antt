use Rattle.std.proofs.Common.{arith}
use Rattle.std.proofs.lemmas.Grind.{common_steps}
use Rattle.jp_pattern.proofs.read_sets.category_at.Goals as goal

pub returns-in-123 : goal.returns-in-123
returns-in-123 c = grind (arith, common_steps)
