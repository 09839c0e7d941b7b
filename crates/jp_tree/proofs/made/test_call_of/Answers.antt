use Rattle.jp_tree.proofs.Views.{test_call_made}
use Rattle.jp_tree.proofs.made.test_call_of.Goals as goal

pub returns : goal.returns
returns c = test_call_made c.args.call
