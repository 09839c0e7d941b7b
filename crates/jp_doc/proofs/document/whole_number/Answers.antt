use Rattle.std.proofs.Common.{rules}
use Rattle.jp_doc.proofs.document.whole_number.Goals as goal

pub returns-clause-whole : goal.returns-clause-whole
returns-clause-whole c = search rules
