use Rattle.std.proofs.Common.{rules}
use Rattle.jp_tokens.proofs.DepthScan.{quoted_count}
use Rattle.jp_tokens.proofs.depth.count_after.Goals as goal

pub returns-in-Inside : goal.returns-in-Inside
returns-in-Inside c = search (rules, quoted_count)
