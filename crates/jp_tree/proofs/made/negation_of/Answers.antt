use Rattle.jp_tree.proofs.Views.{not_made}
use Rattle.jp_tree.proofs.made.negation_of.Goals as goal

pub returns : goal.returns
returns c = not_made c.args.logical
