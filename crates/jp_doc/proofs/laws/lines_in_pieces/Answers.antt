use Rattle.jp_doc.proofs.FeedLaws.{pieces_lines, pieces_count, pieces_open}
use Rattle.jp_doc.specs.Feeding.{nothing_fed}
use Rattle.jp_doc.proofs.laws.lines_in_pieces.Goals as goal

pub returns-clause-handed_out : goal.returns-clause-handed_out
returns-clause-handed_out c = pieces_lines

pub returns-clause-count : goal.returns-clause-count
returns-clause-count c = pieces_count

pub returns-clause-none_open : goal.returns-clause-none_open
returns-clause-none_open c = pieces_open nothing_fed
