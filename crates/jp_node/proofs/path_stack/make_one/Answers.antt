use Rattle.std.proofs.Common.{rules, arith}
use Rattle.std.proofs.lemmas.Grind.{common_steps}
use Rattle.jp_node.proofs.path_stack.make_one.Goals as goal

pub returns-in-Ok-clause-starts : goal.returns-in-Ok-clause-starts
returns-in-Ok-clause-starts c = search rules

pub returns-in-Err-clause-text_kept : goal.returns-in-Err-clause-text_kept
returns-in-Err-clause-text_kept c = grind (arith, common_steps)
