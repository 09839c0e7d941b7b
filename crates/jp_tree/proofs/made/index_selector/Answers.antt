use Rattle.jp_tree.proofs.Views.{index_made}
use Rattle.jp_tree.proofs.made.index_selector.Goals as goal

pub returns : goal.returns
returns c = index_made c.args.number
