use Rattle.jp_run.proofs.Selecting.{nothing_so, nothing_written}
use Rattle.jp_run.proofs.laws.nothing_selected.Goals as goal

pub returns : goal.returns
returns c = λ output layout n k t q ls none. (
  nothing_so output layout n t q k ls none,
  nothing_written output layout n t q k ls none,
)
