use Rattle.jp_program.proofs.NotTaken.{not_taken}
use Rattle.jp_program.proofs.laws.quoting_stands_alone.Goals as goal

pub returns : goal.returns
returns c = λ words w asks wants. not_taken words asks wants.0
