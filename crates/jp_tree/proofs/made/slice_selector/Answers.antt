use Rattle.jp_tree.proofs.Views.{slice_made}
use Rattle.jp_tree.proofs.made.slice_selector.Goals as goal

pub returns : goal.returns
returns c = slice_made (record { first = c.args.first; past = c.args.past; step = c.args.step })
