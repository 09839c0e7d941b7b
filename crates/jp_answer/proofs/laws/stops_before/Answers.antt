use Rattle.jp_doc.specs.Lines.{lines}
use Rattle.jp_answer.proofs.Stopping.{stops_before}
use Rattle.jp_answer.proofs.laws.stops_before.Goals as goal

pub returns-clause-lines : goal.returns-clause-lines
returns-clause-lines c = stops_before

pub returns-clause-streams : goal.returns-clause-streams
returns-clause-streams c = λ t q bytes. stops_before t q (lines bytes)
