use Rattle.jp_tree.proofs.Views.{filter_made}
use Rattle.jp_tree.proofs.made.filter_selector.Goals as goal

pub returns : goal.returns
returns c = filter_made c.args.logical
