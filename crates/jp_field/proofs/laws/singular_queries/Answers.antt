use Rattle.jp_field.proofs.Nodelists.{singular_some}
use Rattle.jp_field.proofs.laws.singular_queries.Goals as goal

pub returns : goal.returns
returns c = singular_some
