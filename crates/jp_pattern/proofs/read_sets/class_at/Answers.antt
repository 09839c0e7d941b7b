use Rattle.std.proofs.Common.{arith}
use Rattle.std.proofs.lemmas.Grind.{common_steps}
use Rattle.jp_pattern.proofs.read_sets.class_at.Goals as goal

pub returns-in-94 : goal.returns-in-94
returns-in-94 c = grind (arith, common_steps)
