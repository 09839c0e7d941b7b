use Rattle.std.proofs.Common.{rules}
use Rattle.jp_tree.proofs.Views.{single_made}
use Rattle.jp_syntax.proofs.sides.is_side.Goals as goal

pub returns-in-Single : goal.returns-in-Single
returns-in-Single c = search (rules, single_made)
