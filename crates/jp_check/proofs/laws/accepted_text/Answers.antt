use Rattle.std.proofs.Common.{arith}
use Rattle.std.proofs.lemmas.Grind.{elements}
use Rattle.jp_check.proofs.laws.accepted_text.Goals as goal

pub returns : goal.returns
returns c = grind (arith, elements)
