use Rattle.std.proofs.Common.{arith}
use Rattle.std.proofs.lemmas.Grind.{common_steps}
use Rattle.jp_pattern.proofs.read_sets.after_inner.Goals as goal

pub returns-in_err-high-in-45 : goal.returns-in_err-high-in-45
returns-in_err-high-in-45 c = grind (arith, common_steps)

pub returns-else-low-high : goal.returns-else-low-high
returns-else-low-high c = grind (arith, common_steps)

pub returns-then-low-high : goal.returns-then-low-high
returns-then-low-high c = grind (arith, common_steps)
