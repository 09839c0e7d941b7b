use Rattle.jp_tree.proofs.Views.{literal_argument_made}
use Rattle.jp_tree.proofs.made.literal_argument.Goals as goal

pub returns : goal.returns
returns c = literal_argument_made c.args.literal
