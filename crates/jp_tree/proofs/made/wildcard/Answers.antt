use Rattle.jp_tree.proofs.Views.{wild_made}
use Rattle.jp_tree.proofs.made.wildcard.Goals as goal

pub returns : goal.returns
returns c = wild_made
