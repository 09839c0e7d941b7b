use Rattle.jp_tree.proofs.Views.{name_made}
use Rattle.jp_tree.proofs.made.name_selector.Goals as goal

pub returns : goal.returns
returns c = name_made c.args.name
