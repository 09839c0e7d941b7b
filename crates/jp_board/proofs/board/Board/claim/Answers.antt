use Rattle.std.proofs.Common.{rules, ap, ◌∙◌, if◌then◌else◌, arith}
use Rattle.std.proofs.lemmas.Grind.{elements}
use Rattle.jp_board.proofs.Steps.{claims}
use Rattle.jp_board.proofs.board.Board.claim.Goals as goal

pub fetch_add-found-requires : goal.fetch_add-found-requires
fetch_add-found-requires c = (
  search rules,
  search rules,
  claims _ _ _ _ c.args.seat.now.one (c.args.seat.now.told_once
      ∙ ap (λ b. if b then 1 else 0) c.if-seat.false),
)

pub invariant_of-seat-2 : goal.invariant_of-seat-2
invariant_of-seat-2 c = search rules

pub returns-then-found-self-clause-rises : goal.returns-then-found-self-clause-rises
returns-then-found-self-clause-rises c = search rules

pub returns-then-found-self-clause-mine : goal.returns-then-found-self-clause-mine
returns-then-found-self-clause-mine c = grind (arith, elements)
