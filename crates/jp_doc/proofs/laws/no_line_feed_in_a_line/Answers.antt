use Rattle.jp_doc.proofs.LineLaws.{lines_feedless}
use Rattle.jp_doc.proofs.laws.no_line_feed_in_a_line.Goals as goal

pub returns-clause-no_line_feed : goal.returns-clause-no_line_feed
returns-clause-no_line_feed c = lines_feedless
