use Rattle.jp_doc.proofs.ReadingInLaws.{read_rises}
use Rattle.jp_path.proofs.LineSteps.{line_steps}
use Rattle.jp_path.proofs.PrintedPaths.{selected, printed}
use Rattle.jp_path.proofs.laws.printed_lines.Goals as goal

pub returns-clause-selected : goal.returns-clause-selected
returns-clause-selected c = λ t n line root at v e. selected t root (line_steps n line root e) at v

pub returns-clause-printed : goal.returns-clause-printed
returns-clause-printed c =
    λ t n line root p e. printed t root (line_steps n line root e) (read_rises n line root e) p

pub returns-clause-steps : goal.returns-clause-steps
returns-clause-steps c = λ n line root at v e. line_steps n line root e at v

pub returns-clause-rising : goal.returns-clause-rising
returns-clause-rising c = read_rises
