use Rattle.std.proofs.Common.{arith}
use Rattle.std.proofs.lemmas.Grind.{common_steps}
use Rattle.jp_pattern.proofs.read_sets.name_from.Goals as goal

pub returns-in_ok-named-in-125-2 : goal.returns-in_ok-named-in-125-2
returns-in_ok-named-in-125-2 c = grind (arith, common_steps)

pub returns-in_ok-named-in-125 : goal.returns-in_ok-named-in-125
returns-in_ok-named-in-125 c = grind (arith, common_steps)
