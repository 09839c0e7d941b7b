use Rattle.std.proofs.Common.{arith}
use Rattle.std.proofs.lemmas.Grind.{common_steps}
use Rattle.jp_pattern.proofs.read_sets.listing_at.Goals as goal

pub returns-in_err-element-in-len1-up : goal.returns-in_err-element-in-len1-up
returns-in_err-element-in-len1-up c = grind (arith, common_steps)

pub returns-in_ok-found-in-45 : goal.returns-in_ok-found-in-45
returns-in_ok-found-in-45 c = grind (arith, common_steps)

pub returns-in_ok-found-in-len1-up : goal.returns-in_ok-found-in-len1-up
returns-in_ok-found-in-len1-up c = grind (arith, common_steps)
