use Rattle.jp_program.proofs.OneWish.{one_wish}
use Rattle.jp_program.proofs.laws.one_wish.Goals as goal

pub returns : goal.returns
returns c = one_wish
