use Rattle.std.proofs.Common.{arith}
use Rattle.std.proofs.lemmas.Grind.{common_steps}
use Rattle.jp_pattern.proofs.read_counts.after_least_at.Goals as goal

pub returns-in-125 : goal.returns-in-125
returns-in-125 c = grind (arith, common_steps)

pub returns-in-44 : goal.returns-in-44
returns-in-44 c = grind (arith, common_steps)
