use Rattle.std.proofs.Common.{rules}
use Rattle.jp_doc.proofs.document.Document.of_value.Goals as goal

pub returns-in-Some : goal.returns-in-Some
returns-in-Some c = search rules
