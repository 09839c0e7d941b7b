use Rattle.jp_tree.proofs.Views.{call_made}
use Rattle.jp_tree.proofs.made.call_from.Goals as goal

pub returns : goal.returns
returns c = call_made c.args.name c.args.arguments
