use Rattle.jp_tree.proofs.Views.{query_argument_made}
use Rattle.jp_tree.proofs.made.query_argument.Goals as goal

pub returns : goal.returns
returns c = query_argument_made c.args.query
