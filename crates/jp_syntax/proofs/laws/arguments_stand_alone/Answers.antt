use Rattle.jp_tree.specs.Spelling.{LogicalIs}
use Rattle.jp_syntax.proofs.StandingAlone as law
use Rattle.jp_syntax.proofs.laws.arguments_stand_alone.Goals as goal

pub returns-clause-query : goal.returns-clause-query
returns-clause-query c = λ levels t q. law.query_alone (LogicalIs levels) t q

pub returns-clause-call : goal.returns-clause-call
returns-clause-call c = λ levels t d. law.call_alone (LogicalIs levels) t d
