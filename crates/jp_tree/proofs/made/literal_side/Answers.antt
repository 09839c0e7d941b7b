use Rattle.jp_tree.proofs.Views.{literal_made}
use Rattle.jp_tree.proofs.made.literal_side.Goals as goal

pub returns : goal.returns
returns c = literal_made c.args.literal
