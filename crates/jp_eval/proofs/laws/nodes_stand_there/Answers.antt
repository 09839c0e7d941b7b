use Rattle.jp_eval.proofs.Listed.{listed_where_it_stands}
use Rattle.jp_eval.proofs.laws.nodes_stand_there.Goals as goal

pub returns : goal.returns
returns c = listed_where_it_stands
