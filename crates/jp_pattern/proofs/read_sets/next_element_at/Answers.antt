use Rattle.std.proofs.Common.{arith}
use Rattle.std.proofs.lemmas.Grind.{common_steps}
use Rattle.jp_pattern.proofs.read_sets.next_element_at.Goals as goal

pub returns-in_err-element-in-len1-up : goal.returns-in_err-element-in-len1-up
returns-in_err-element-in-len1-up c = grind (arith, common_steps)

pub returns-in-93 : goal.returns-in-93
returns-in-93 c = grind (arith, common_steps)

pub returns-in_ok-element-in-len1-up : goal.returns-in_ok-element-in-len1-up
returns-in_ok-element-in-len1-up c = grind (arith, common_steps)

pub returns-in-45 : goal.returns-in-45
returns-in-45 c = grind (arith, common_steps)
