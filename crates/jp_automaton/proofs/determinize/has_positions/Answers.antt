use Rattle.std.proofs.Common.{rules}
use Rattle.jp_automaton.proofs.determinize.has_positions.Goals as goal

pub returns-then-state-at_start : goal.returns-then-state-at_start
returns-then-state-at_start c = search rules
