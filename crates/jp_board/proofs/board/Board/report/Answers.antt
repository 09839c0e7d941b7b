use Rattle.std.proofs.Common.{rules}
use Rattle.jp_board.proofs.Steps.{reports}
use Rattle.jp_board.proofs.board.Board.report.Goals as goal

pub fetch_min-requires : goal.fetch_min-requires
fetch_min-requires c = (search rules, search rules, reports _ _ _ _ _ c.args.seat.now.one c.requires.claimed)
