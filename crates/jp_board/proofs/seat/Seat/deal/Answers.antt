use Rattle.std.proofs.Common.{rules, arith, ap, sym, ◌∙◌, All, subst}
use Rattle.std.proofs.lemmas.Grind.{common_steps}
use Rattle.std.proofs.lemmas.List.Elements.{All-push}
use Rattle.jp_board.specs.Steps.{Place}
use Rattle.jp_board.specs.Seats.{IsAt, IsFresh}
use Rattle.jp_board.proofs.Reaching.{deals}
use Rattle.jp_board.proofs.Tallying.{left_fresh, one_fresh}
use Rattle.jp_board.proofs.seat.Seat.deal.Goals as goal

pub split_seat-token-requires : goal.split_seat-token-requires
split_seat-token-requires c =
    let inv = c.loop-done.invariant in
    let t = c.loop-done-test.true in
    (inv.0, search rules, deals _ _ _ _ _ _ (ap (λ (m : Place). m.0) inv.1) (omega arith))

pub loop-done-preserved : goal.loop-done-preserved
loop-done-preserved c =
    let inv = c.loop-done.invariant in
    let t = c.loop-done-test.true in
    let s = c.split_seat-token.ensures in
    let n = c.new.ensures in
    let key = c.args.table.now.shared.key in
    let id = c.args.table.now.shared.table_id in
    let left = left_fresh c.loop-done.first.me c.split_seat-token.new.seat.me key.0 key.1 inv.1 s.2 in
    let one = one_fresh c.loop-done.first.me c.split_seat-token.result.me key.0 key.1 inv.1 s.4 in
    let is = ap (λ x. x.me.0) n ∙ ap (λ (m : Place). m.0) one in
    let items = sym c.push_reserved.ensures.items in (
      s.0 ∙ inv.0,
      left.0,
      (let k = left.1 in omega arith),
      (let l = c.push_reserved.ensures.len in omega arith),
      (let l = c.push_reserved.ensures.capacity in omega arith),
      subst (All (IsAt id key.0 key.1)) items (All-push (IsAt id key.0 key.1) c.loop-done.dealt.items
          c.new.result inv.5 (
            ap (λ x. x.table_id) n ∙ s.3 ∙ inv.0,
            ap (λ v. v.pieces) is,
            ap (λ v. v.made)
                is,
          )),
      subst (All (IsFresh key.0 key.1)) items (All-push (IsFresh key.0 key.1) c.loop-done.dealt.items
          c.new.result inv.6 is),
    )

pub returns-clause-at : goal.returns-clause-at
returns-clause-at c = grind (arith, common_steps)

pub returns-clause-fresh : goal.returns-clause-fresh
returns-clause-fresh c = grind (arith, common_steps)
