use Rattle.jp_run.proofs.Cuttings.{documents_from_one, lines_from_one}
use Rattle.jp_run.proofs.laws.numbered_from_one.Goals as goal

pub returns-clause-lines : goal.returns-clause-lines
returns-clause-lines c = λ input. lines_from_one input

pub returns-clause-documents : goal.returns-clause-documents
returns-clause-documents c = λ input. documents_from_one input
