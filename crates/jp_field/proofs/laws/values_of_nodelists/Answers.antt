use Rattle.jp_field.proofs.Nodelists.{nodes_of}
use Rattle.jp_field.proofs.laws.values_of_nodelists.Goals as goal

pub returns : goal.returns
returns c = λ t root ss path n e. nodes_of t root ss path e n
