use Rattle.std.proofs.Common.{rules}
use Rattle.jp_node.proofs.index.place.Goals as goal

pub returns-else-index-lt0 : goal.returns-else-index-lt0
returns-else-index-lt0 c = search rules
