use Rattle.std.proofs.Common.{arith}
use Rattle.std.proofs.lemmas.Grind.{common_steps}
use Rattle.jp_pattern.proofs.read_counts.after_comma_at.Goals as goal

pub returns-in-125 : goal.returns-in-125
returns-in-125 c = grind (arith, common_steps)
