use Rattle.std.proofs.Common.{sym}
use Rattle.jp_node.proofs.Lists.{array_of}
use Rattle.jp_node.proofs.part.Part.kind.Goals as goal

pub returns-in-Array : goal.returns-in-Array
returns-in-Array c =
    let told = c.in-Array.ensures in
    sym (array_of _ _ told.0 told.1 told.2)
