use Rattle.jp_path.proofs.OwnNode.{own_node}
use Rattle.jp_path.proofs.laws.path_selects_its_node.Goals as goal

pub returns : goal.returns
returns c = λ t at root v. own_node t root at v
