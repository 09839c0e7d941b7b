use Rattle.jp_tree.proofs.Views.{value_call_made}
use Rattle.jp_tree.proofs.made.call_side.Goals as goal

pub returns : goal.returns
returns c = value_call_made c.args.call
