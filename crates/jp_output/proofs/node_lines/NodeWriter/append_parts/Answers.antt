use Rattle.std.proofs.Common.{arith}
use Rattle.std.proofs.lemmas.Grind.{common_steps}
use Rattle.jp_output.proofs.node_lines.NodeWriter.append_parts.Goals as goal

pub returns-in_err-append_value-clause-kept : goal.returns-in_err-append_value-clause-kept
returns-in_err-append_value-clause-kept c = grind (arith, common_steps)

pub returns-in_err-push-clause-kept : goal.returns-in_err-push-clause-kept
returns-in_err-push-clause-kept c = grind (arith, common_steps)

pub returns-clause-kept : goal.returns-clause-kept
returns-clause-kept c = grind (arith, common_steps)

pub returns-in_err-append_path-clause-kept : goal.returns-in_err-append_path-clause-kept
returns-in_err-append_path-clause-kept c = grind (arith, common_steps)

pub returns-clause-ok : goal.returns-clause-ok
returns-clause-ok c = grind (arith, common_steps)

pub returns-in_err-push-2-clause-kept : goal.returns-in_err-push-2-clause-kept
returns-in_err-push-2-clause-kept c = grind (arith, common_steps)
