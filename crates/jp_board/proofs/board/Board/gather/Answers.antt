use Rattle.std.proofs.Common.{rules, arith, ap, sym, ◌∙◌, ◌∷◌, map, Some, subst}
use Rattle.std.proofs.lemmas.List.Elements.{All-pop}
use Rattle.jp_board.specs.declared.view.View.{View}
use Rattle.jp_board.specs.Steps.{Place}
use Rattle.jp_board.specs.Seats.{IsSeatOf, view_of}
use Rattle.jp_board.specs.Account.{SameAccount}
use Rattle.jp_board.proofs.Reaching.{gathers}
use Rattle.jp_board.proofs.Tallying.{first_gathered, next_gathered}
use Rattle.jp_board.proofs.board.Board.gather.Goals as goal

pub loop-token-init : goal.loop-token-init
loop-token-init c =
    let s = c.in-Some.field-0 in
    let e = c.in-Some.ensures.items in
    let o = s.one in
    let len = c.in-Some.ensures.len in
    let p = All-pop (IsSeatOf c.args.self.now) c.args.seats.items c.pop.new.self.items (Some s) e
    c.requires.0 in
    (p.1.0, omega arith, omega arith, p.0, first_gathered s c.pop.new.self.items c.args.seats.items e)

pub join_seat-requires : goal.join_seat-requires
join_seat-requires c =
    let inv = c.loop-token.invariant in
    let s = c.in-Some-pop.field-0 in
    let p = All-pop (IsSeatOf c.args.self.now) c.loop-token.seats.items c.pop-in-loop-token.new.self.items
    (Some s) c.in-Some-pop.ensures.items inv.3 in
    (inv.0, p.1.0, s.holds_no_slot, search rules, gathers _ _ _ _ _ inv.1)

pub loop-token-preserved : goal.loop-token-preserved
loop-token-preserved c =
    let inv = c.loop-token.invariant in
    let s = c.in-Some-pop.field-0 in
    let e = c.in-Some-pop.ensures.items in
    let len = c.in-Some-pop.ensures.len in
    let j = c.join_seat.ensures in
    let o = s.one in
    let p = All-pop (IsSeatOf c.args.self.now) c.loop-token.seats.items c.pop-in-loop-token.new.self.items
    (Some s) e inv.3 in
    let is = ap (λ (m : Place). m.0) j.2 in
    let stands = ap (λ (v : View). v.stands_for) is in
    let count = inv.2 in (
      j.0 ∙ inv.0,
      omega arith,
      omega arith,
      p.0,
      subst (λ (v : View). SameAccount (map view_of c.args.seats.items)
          (v ∷ map view_of c.pop-in-loop-token.new.self.items)) (sym is)
          (next_gathered c.loop-token.all.me.0 s c.pop-in-loop-token.new.self.items c.loop-token.seats.items
          (map view_of c.args.seats.items) inv.4 e),
    )
