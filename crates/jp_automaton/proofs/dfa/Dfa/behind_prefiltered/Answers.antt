use Rattle.std.proofs.Common.{arith}
use Rattle.std.proofs.lemmas.Grind.{common_steps}
use Rattle.jp_automaton.proofs.dfa.Dfa.behind_prefiltered.Goals as goal

pub loop-rest-preserved : goal.loop-rest-preserved
loop-rest-preserved c = grind (arith, common_steps)

pub returns : goal.returns
returns c = grind (arith, common_steps)

pub returns-then-walk-ne0 : goal.returns-then-walk-ne0
returns-then-walk-ne0 c = grind (arith, common_steps)
