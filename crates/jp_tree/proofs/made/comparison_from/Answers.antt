use Rattle.jp_tree.proofs.Views.{comparison_made}
use Rattle.jp_tree.proofs.made.comparison_from.Goals as goal

pub returns : goal.returns
returns c = comparison_made c.args.left c.args.op c.args.right
