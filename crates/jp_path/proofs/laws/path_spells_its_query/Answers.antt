use Rattle.jp_path.proofs.PathSpelled.{path_spelled, path_spelled_only, path_depth}
use Rattle.jp_path.proofs.PathAccepted.{path_accepted}
use Rattle.jp_path.proofs.laws.path_spells_its_query.Goals as goal

pub returns-clause-depth : goal.returns-clause-depth
returns-clause-depth c = path_depth

pub returns-clause-spells : goal.returns-clause-spells
returns-clause-spells c = path_spelled

pub returns-clause-accepted : goal.returns-clause-accepted
returns-clause-accepted c = path_accepted

pub returns-clause-only : goal.returns-clause-only
returns-clause-only c = path_spelled_only
