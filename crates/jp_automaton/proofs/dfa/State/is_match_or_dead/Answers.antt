use Rattle.std.proofs.Common.{rules}
use Rattle.jp_automaton.proofs.dfa.State.is_match_or_dead.Goals as goal

pub returns-then-self-clause-found : goal.returns-then-self-clause-found
returns-then-self-clause-found c = search rules
