use Rattle.std.proofs.Common.{rules}
use Rattle.jp_found.proofs.found.with_another.Goals as goal

pub returns-in-One : goal.returns-in-One
returns-in-One c = search rules
