use Rattle.std.proofs.Common.{rules}
use Rattle.jp_doc.proofs.document.fault_of.Goals as goal

pub returns-else-eq-clause-other : goal.returns-else-eq-clause-other
returns-else-eq-clause-other c = search rules
