use Rattle.std.proofs.Common.{arith}
use Rattle.std.proofs.lemmas.Grind.{common_steps}
use Rattle.jp_automaton.proofs.ProfileLemmas.{kept_prefilter}
use Rattle.jp_automaton.proofs.pattern.Pattern.part_state.Goals as goal

pub behind_prefiltered-requires-clause-right : goal.behind_prefiltered-requires-clause-right
behind_prefiltered-requires-clause-right c =
    let self = c.args.self.now in
    kept_prefilter self.part.cells.items self.prefilter.flags.items self.right_prefilter

pub returns-then-is_empty : goal.returns-then-is_empty
returns-then-is_empty c = grind (arith, common_steps)

pub returns-else-is_empty : goal.returns-else-is_empty
returns-else-is_empty c = grind (arith, common_steps)
