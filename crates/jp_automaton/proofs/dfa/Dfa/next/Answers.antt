use Rattle.std.proofs.Common.{arith}
use Rattle.std.proofs.lemmas.Grind.{common_steps}
use Rattle.jp_automaton.proofs.dfa.Dfa.next.Goals as goal

pub returns-then-index-len-clause-cell : goal.returns-then-index-len-clause-cell
returns-then-index-len-clause-cell c = grind (arith, common_steps)
