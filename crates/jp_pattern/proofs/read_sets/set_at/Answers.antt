use Rattle.std.proofs.Common.{arith}
use Rattle.std.proofs.lemmas.Grind.{common_steps}
use Rattle.jp_pattern.proofs.read_sets.set_at.Goals as goal

pub returns-in-len1-up : goal.returns-in-len1-up
returns-in-len1-up c = grind (arith, common_steps)

pub returns-in-92 : goal.returns-in-92
returns-in-92 c = grind (arith, common_steps)

pub returns-in-46 : goal.returns-in-46
returns-in-46 c = grind (arith, common_steps)

pub returns-in-91 : goal.returns-in-91
returns-in-91 c = grind (arith, common_steps)
