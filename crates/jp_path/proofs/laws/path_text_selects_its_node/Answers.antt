use Rattle.jp_path.proofs.PathAccepted.{text_selects, any_selects}
use Rattle.jp_path.proofs.laws.path_text_selects_its_node.Goals as goal

pub returns-clause-accepted : goal.returns-clause-accepted
returns-clause-accepted c = text_selects

pub returns-clause-each : goal.returns-clause-each
returns-clause-each c = any_selects
