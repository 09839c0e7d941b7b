use Rattle.jp_tree.proofs.Views.{any_made}
use Rattle.jp_tree.proofs.made.any_of.Goals as goal

pub returns : goal.returns
returns c = any_made c.args.parts
