use Rattle.jp_node.proofs.Descent.{descend}
use Rattle.jp_node.proofs.laws.descendants.Goals as goal

pub returns : goal.returns
returns c = descend
