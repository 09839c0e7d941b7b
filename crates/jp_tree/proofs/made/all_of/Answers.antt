use Rattle.jp_tree.proofs.Views.{all_made}
use Rattle.jp_tree.proofs.made.all_of.Goals as goal

pub returns : goal.returns
returns c = all_made c.args.parts
