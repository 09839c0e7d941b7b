use Rattle.std.proofs.Common.{arith}
use Rattle.std.proofs.lemmas.Grind.{common_steps}
use Rattle.jp_pattern.proofs.read_counts.quantity_at.Goals as goal

pub returns-in-63 : goal.returns-in-63
returns-in-63 c = grind (arith, common_steps)

pub returns-in-43 : goal.returns-in-43
returns-in-43 c = grind (arith, common_steps)

pub returns-in-42 : goal.returns-in-42
returns-in-42 c = grind (arith, common_steps)

pub returns-in_ok-least-in-123 : goal.returns-in_ok-least-in-123
returns-in_ok-least-in-123 c = grind (arith, common_steps)

pub returns-in_err-least-in-123 : goal.returns-in_err-least-in-123
returns-in_err-least-in-123 c = grind (arith, common_steps)
