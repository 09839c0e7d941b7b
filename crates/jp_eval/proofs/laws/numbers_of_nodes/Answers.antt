use Rattle.jp_doc.specs.NumbersWithin.{IsWhole, IsJsonNumber}
use Rattle.jp_eval.proofs.NumbersKept.{numbers_kept}
use Rattle.jp_eval.proofs.laws.numbers_of_nodes.Goals as goal

pub returns-clause-whole : goal.returns-clause-whole
returns-clause-whole c = numbers_kept IsWhole

pub returns-clause-json : goal.returns-clause-json
returns-clause-json c = numbers_kept IsJsonNumber
