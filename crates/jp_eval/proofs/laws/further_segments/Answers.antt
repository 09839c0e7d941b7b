use Rattle.jp_eval.proofs.Through.{nodelist_more}
use Rattle.jp_eval.proofs.laws.further_segments.Goals as goal

pub returns : goal.returns
returns c = nodelist_more
