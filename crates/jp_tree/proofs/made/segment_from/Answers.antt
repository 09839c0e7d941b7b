use Rattle.jp_tree.proofs.Views.{segment_made}
use Rattle.jp_tree.proofs.made.segment_from.Goals as goal

pub returns : goal.returns
returns c = segment_made c.args.deep c.args.selectors
