use Rattle.std.proofs.Common.{arith}
use Rattle.std.proofs.lemmas.Grind.{common_steps}
use Rattle.jp_automaton.proofs.byte_classes.make_byte_classes.Goals as goal

pub loop-code-init : goal.loop-code-init
loop-code-init c = grind (arith, common_steps)

pub returns-in_err-push : goal.returns-in_err-push
returns-in_err-push c = grind (arith, common_steps)

pub loop-code-smaller : goal.loop-code-smaller
loop-code-smaller c = grind (arith, common_steps)

pub loop-code-preserved : goal.loop-code-preserved
loop-code-preserved c = grind (arith, common_steps)

pub returns : goal.returns
returns c = grind (arith, common_steps)
