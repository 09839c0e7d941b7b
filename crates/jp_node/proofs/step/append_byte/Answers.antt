use Rattle.std.proofs.Common.{rules}
use Rattle.jp_node.proofs.step.append_byte.Goals as goal

pub returns-in-8-clause-ok : goal.returns-in-8-clause-ok
returns-in-8-clause-ok c = search rules

pub returns-in-39-clause-ok : goal.returns-in-39-clause-ok
returns-in-39-clause-ok c = search rules
