use Rattle.jp_answer.proofs.OnFaults.{formed_joined}
use Rattle.jp_answer.proofs.laws.pieces.Goals as goal

pub returns : goal.returns
returns c = λ f k t q a b. formed_joined f t q k a b
