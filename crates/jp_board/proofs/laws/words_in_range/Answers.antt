use Rattle.jp_board.proofs.Reaching.{next_in_range, least_in_range}
use Rattle.jp_board.proofs.laws.words_in_range.Goals as goal

pub returns-clause-next : goal.returns-clause-next
returns-clause-next c = next_in_range

pub returns-clause-least : goal.returns-clause-least
returns-clause-least c = least_in_range
