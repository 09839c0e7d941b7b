use Rattle.jp_tree.proofs.Views.{single_made}
use Rattle.jp_tree.proofs.made.query_side.Goals as goal

pub returns : goal.returns
returns c = single_made c.args.query
