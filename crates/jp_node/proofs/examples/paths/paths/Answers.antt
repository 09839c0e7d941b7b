use Rattle.std.proofs.Common.{rules}
use Rattle.jp_node.proofs.examples.paths.paths.Goals as goal

pub returns-clause-vertical_tab : goal.returns-clause-vertical_tab
returns-clause-vertical_tab c = search rules
