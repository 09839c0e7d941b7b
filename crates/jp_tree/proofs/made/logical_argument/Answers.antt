use Rattle.jp_tree.proofs.Views.{logical_argument_made}
use Rattle.jp_tree.proofs.made.logical_argument.Goals as goal

pub returns : goal.returns
returns c = logical_argument_made c.args.logical
