use Rattle.jp_tree.proofs.Views.{compare_made}
use Rattle.jp_tree.proofs.made.comparing.Goals as goal

pub returns : goal.returns
returns c = compare_made c.args.comparison
