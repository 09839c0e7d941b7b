use denote.Param.Send.{IsSync, recorded_sync, struct_sync, shr_sync}
use denote.Param.{param}
use denote.Struct.Declared.{shape}
use denote.Struct.Tuple.{TupleAt, field_at, type_at}
use mir.Syntax.{named}
use denote.Ref.{NamedLft}
use Rattle.jp_board.proofs.board.Board.TheSendSync as boards
use Rattle.jp_answer.specs.contracts.crew.Crew as Crew
use Rattle.jp_answer.proofs.crew.Crew.TheSendSync as crews
use Rattle.jp_answer.specs.contracts.ring.Ring as Ring
use Rattle.jp_answer.proofs.RingCrosses.{ring_sync}
use Rattle.jp_answer.proofs.beside.all_answer.Lts as lts
use Rattle.jp_answer.proofs.beside.all_answer.Goals as goal

-- what the workers' closure captures may be shared: what the crew is given, the ring and the board
pub map_vec-requires-sync-F : goal.map_vec-requires-sync-F
map_vec-requires-sync-F g c = λ κs within.
    let names = lts.name-15 g.row.R g.row.G g.row.F g.R.laws g.G.laws g.F.laws g.R.Threads
    g.R.Threads-dict g.G.Gate g.G.Gate-dict
    g.F.Form g.F.Form-dict g.F.Visit g.F.Visit-dict g.F.Destruct-dict in
    let lent : NamedLft = record { mir = named 8; lft = κs.1.1.1.1.1.1.1.1.0 } in
    let cut : NamedLft = record { mir = named 10; lft = κs.1.1.1.1.1.1.1.1.1.1.0 } in
    let rows = lts.of-14 g.row.R g.row.G g.row.F g.R.laws g.G.laws g.F.laws g.R.Threads g.R.Threads-dict
    g.G.Gate g.G.Gate-dict
    g.F.Form g.F.Form-dict g.F.Visit g.F.Visit-dict g.F.Destruct-dict
    (record { mir = named 7; lft = κs.1.1.1.1.1.1.1.0 }) lent
    (record { mir = named 9; lft = κs.1.1.1.1.1.1.1.1.1.0 }) cut
    (record { mir = named 11; lft = κs.1.1.1.1.1.1.1.1.1.1.1.0 }) in
    let crew : IsSync (Crew.the_row lent (param 0 g.row.R) (param 1 g.row.G)) =
    crews.the_sync lent _ _ c.type_bounds.sync-R c.type_bounds.sync-G in
    let shared = Ring.the_row cut (param 2 g.row.F) g.F.Form g.F.Visit in
    let ring : IsSync shared = ring_sync cut (param 2 g.row.F) g.F.Form g.F.Visit in
    let captured : IsSync (TupleAt names rows) =
    recorded_sync (field_at names rows).row _ _ (type_at names rows).to_one
    (struct_sync (shape (type_at names rows)) (
      shr_sync (named 7) κs.1.1.1.1.1.1.1.0 _ crew,
      (
        shr_sync (named 9) κs.1.1.1.1.1.1.1.1.1.0 shared ring,
        (
          shr_sync (named 11) κs.1.1.1.1.1.1.1.1.1.1.1.0 _ boards.the_sync,
          tt,
        ),
      ),
    )) in
    record { shared = captured.shared }
