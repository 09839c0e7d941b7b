use Rattle.jp_number.proofs.Texts.{own_length}
use Rattle.jp_number.proofs.laws.own_text.Goals as goal

pub returns-clause-short : goal.returns-clause-short
returns-clause-short c = own_length
