use Rattle.jp_tree.proofs.Views.{call_argument_made}
use Rattle.jp_tree.proofs.made.call_argument.Goals as goal

pub returns : goal.returns
returns c = call_argument_made c.args.call
