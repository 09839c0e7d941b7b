use Rattle.std.proofs.Common.{rules}
use Rattle.jp_output.proofs.node_lines.NodeLinesVisit.fresh.Goals as goal

pub returns : goal.returns
returns c = search rules
