use Rattle.jp_doc.specs.Document.{document_value}
use Rattle.jp_doc.proofs.RisingProps.{had}
use Rattle.jp_path.proofs.DocumentSteps.{document_steps}
use Rattle.jp_path.proofs.PrintedPaths.{selected, printed}
use Rattle.jp_path.proofs.laws.printed_paths.Goals as goal

pub returns-clause-selected : goal.returns-clause-selected
returns-clause-selected c = λ t d. selected t (document_value d) (document_steps d)

pub returns-clause-printed : goal.returns-clause-printed
returns-clause-printed c =
    λ t d. printed t (document_value d) (document_steps d) (had d.root d.is_document).rising_names

pub returns-clause-steps : goal.returns-clause-steps
returns-clause-steps c = document_steps
