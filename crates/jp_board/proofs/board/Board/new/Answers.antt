use Rattle.std.proofs.Common.{rules}
use Rattle.jp_board.proofs.board.Board.new.Goals as goal

pub returns-then-pieces-gt-MAX_PIECES-clause-too_many
    : goal.returns-then-pieces-gt-MAX_PIECES-clause-too_many
returns-then-pieces-gt-MAX_PIECES-clause-too_many c = search rules
