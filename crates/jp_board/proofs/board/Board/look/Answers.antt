use Rattle.std.proofs.Common.{rules}
use Rattle.jp_board.proofs.Steps.{looks}
use Rattle.jp_board.proofs.board.Board.look.Goals as goal

pub load-requires : goal.load-requires
load-requires c = (search rules, search rules, looks _ _ _ _ c.args.seat.now.one)

pub returns-clause-look : goal.returns-clause-look
returns-clause-look c = search rules

pub returns-clause-within : goal.returns-clause-within
returns-clause-within c = search rules
