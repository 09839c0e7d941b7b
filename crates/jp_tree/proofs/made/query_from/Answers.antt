use Rattle.jp_tree.proofs.Views.{query_made}
use Rattle.jp_tree.proofs.made.query_from.Goals as goal

pub returns : goal.returns
returns c = query_made c.args.start c.args.segments
