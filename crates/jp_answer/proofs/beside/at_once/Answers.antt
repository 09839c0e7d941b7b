use denote.Param.Send.{IsSend, IsSync, recorded_send, struct_send, shr_send, mut_send, param_send, sendable}
use denote.Param.{param}
use denote.Ref.{NamedLft}
use denote.Struct.Declared.{shape}
use denote.Struct.Tuple.{TupleAt, field_at, type_at}
use mir.Syntax.{named}
use Rattle.std.proofs.Crossing.{crosses}
use Rattle.jp_board.proofs.board.Board.TheSendSync as boards
use Rattle.jp_board.proofs.seat.Seat.TheSendSync as seats
use Rattle.jp_answer.specs.contracts.crew.Crew as Crew
use Rattle.jp_answer.proofs.crew.Crew.TheSendSync as crews
use Rattle.jp_answer.specs.contracts.ring.Ring as Ring
use Rattle.jp_answer.proofs.RingCrosses.{ring_sync}
use Rattle.jp_answer.proofs.beside.at_once.Lts as lts
use Rattle.jp_answer.proofs.beside.at_once.Goals as goal

-- what the other workers' thread is lent may be shared, and their seats may be sent
pub join_mut-requires-send-F : goal.join_mut-requires-send-F
join_mut-requires-send-F g c κs within =
    let names = lts.name-17 g.row.R g.row.G g.row.F g.row.P g.row.X g.R.laws g.G.laws g.F.laws g.P.laws
    g.X.laws g.R.Threads g.R.Threads-dict g.G.Gate g.G.Gate-dict g.F.Form g.F.Form-dict g.F.Visit
    g.F.Visit-dict g.P.FnMut g.P.FnMut-dict g.P.FnOnce-dict
    g.F.Destruct-dict g.P.Destruct-dict in
    let lent : NamedLft = record { mir = named 10; lft = κs.1.1.1.1.1.1.1.1.1.1.0 } in
    let cut : NamedLft = record { mir = named 12; lft = κs.1.1.1.1.1.1.1.1.1.1.1.1.0 } in
    let rows = lts.of-22 g.row.R g.row.G g.row.F g.row.P g.row.X g.R.laws g.G.laws g.F.laws g.P.laws
    g.X.laws g.R.Threads g.R.Threads-dict g.G.Gate g.G.Gate-dict g.F.Form g.F.Form-dict g.F.Visit
    g.F.Visit-dict g.P.FnMut g.P.FnMut-dict g.P.FnOnce-dict
    g.F.Destruct-dict g.P.Destruct-dict
    (record { mir = named 8; lft = κs.1.1.1.1.1.1.1.1.0 })
    (record { mir = named 9; lft = κs.1.1.1.1.1.1.1.1.1.0 }) lent
    (record { mir = named 11; lft = κs.1.1.1.1.1.1.1.1.1.1.1.0 }) cut
    (record { mir = named 13; lft = κs.1.1.1.1.1.1.1.1.1.1.1.1.1.0 }) in
    let others = lts.of-10 g.row.R g.row.G g.row.F g.row.P g.row.X g.R.laws g.G.laws g.F.laws g.P.laws
    g.X.laws g.R.Threads g.R.Threads-dict g.G.Gate g.G.Gate-dict g.F.Form g.F.Form-dict g.F.Visit
    g.F.Visit-dict g.P.FnMut g.P.FnMut-dict g.P.FnOnce-dict
    g.F.Destruct-dict g.P.Destruct-dict in
    let crew : IsSync (Crew.the_row lent (param 0 g.row.R) (param 1 g.row.G)) =
    crews.the_sync lent _ _ c.type_bounds.sync-R c.type_bounds.sync-G in
    let shared = Ring.the_row cut (param 2 g.row.F) g.F.Form g.F.Visit in
    let ring : IsSync shared = ring_sync cut (param 2 g.row.F) g.F.Form g.F.Visit in
    let sent : IsSend (TupleAt names rows) =
    recorded_send (field_at names rows).row _ _ (type_at names rows).to_one
    (struct_send (shape (type_at names rows)) (
      mut_send (named 8) κs.1.1.1.1.1.1.1.1.0 others (search (seats.the_send, crosses, sendable) depth 60),
      (
        shr_send (named 9) κs.1.1.1.1.1.1.1.1.1.0 _ crew,
        (
          shr_send (named 11) κs.1.1.1.1.1.1.1.1.1.1.1.0 shared ring,
          (
            shr_send (named 13) κs.1.1.1.1.1.1.1.1.1.1.1.1.1.0 _ boards.the_sync,
            tt,
          ),
        ),
      ),
    )) in
    param_send 1 (lts.arg-0-1 g.row.R g.row.G g.row.F g.row.P g.row.X g.R.laws g.G.laws g.F.laws g.P.laws
    g.X.laws g.R.Threads g.R.Threads-dict g.G.Gate g.G.Gate-dict g.F.Form g.F.Form-dict g.F.Visit
    g.F.Visit-dict g.P.FnMut g.P.FnMut-dict g.P.FnOnce-dict
    g.F.Destruct-dict g.P.Destruct-dict κs) (record { owned = sent.owned; leaving = λ k x w. (tt, tt) })
