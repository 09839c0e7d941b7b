use Rattle.std.proofs.Common.{rules}
use Rattle.std.proofs.Common.{[], ◌∷◌, map}
use Rattle.jp_board.specs.Seats.{view_of}
use Rattle.jp_board.proofs.Tallying.{tallies_same}
use Rattle.jp_board.proofs.board.Board.close.Goals as goal

pub returns-clause-tally : goal.returns-clause-tally
returns-clause-tally c = tallies_same c.args.self.pieces c.settle.result.claimed c.settle.result.least
    (map view_of c.args.seats.items) (c.gather-all.result.me.0 ∷ []) c.gather-all.ensures.same
    c.settle.ensures

pub returns-then-len-self-clause-all : goal.returns-then-len-self-clause-all
returns-then-len-self-clause-all c = search rules

pub settle-requires : goal.settle-requires
settle-requires c = search rules
