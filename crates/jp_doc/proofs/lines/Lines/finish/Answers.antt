use Rattle.std.proofs.Common.{arith}
use Rattle.std.proofs.lemmas.Grind.{common_steps}
use Rattle.jp_doc.proofs.lines.Lines.finish.Goals as goal

pub returns-else-is_err-clause-lines : goal.returns-else-is_err-clause-lines
returns-else-is_err-clause-lines c = grind (arith, common_steps)

pub returns-then-is_err-clause-same_lines : goal.returns-then-is_err-clause-same_lines
returns-then-is_err-clause-same_lines c = grind (arith, common_steps)
