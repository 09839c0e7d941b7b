use Rattle.jp_doc.proofs.Found.{array_kept, object_kept}
use Rattle.jp_doc.proofs.laws.values_inside.Goals as goal

pub returns-clause-items : goal.returns-clause-items
returns-clause-items c = array_kept

pub returns-clause-members : goal.returns-clause-members
returns-clause-members c = object_kept
