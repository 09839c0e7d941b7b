use Rattle.jp_answer.proofs.Joining.{none_before}
use Rattle.jp_answer.proofs.laws.none_passed_before.Goals as goal

pub returns : goal.returns
returns c = none_before
