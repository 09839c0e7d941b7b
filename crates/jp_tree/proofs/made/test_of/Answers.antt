use Rattle.jp_tree.proofs.Views.{test_made}
use Rattle.jp_tree.proofs.made.test_of.Goals as goal

pub returns : goal.returns
returns c = test_made c.args.query
