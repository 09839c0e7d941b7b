use Rattle.jp_output.proofs.LinesWithNodes.{line_of_some, same_lines}
use Rattle.jp_output.proofs.laws.lines_with_nodes.Goals as goal

pub returns-clause-once : goal.returns-clause-once
returns-clause-once c = line_of_some

pub returns-clause-same_lines : goal.returns-clause-same_lines
returns-clause-same_lines c = same_lines
