use Rattle.std.proofs.Common.{rules}
use Rattle.jp_found.proofs.found.one_more.Goals as goal

pub returns : goal.returns
returns c = search rules
