use Rattle.jp_run.proofs.Serving.{both_served, passed_up, served_on}
use Rattle.jp_run.proofs.beside.serve.Goals as goal

pub write_found-requires-clause-serving : goal.write_found-requires-clause-serving
write_found-requires-clause-serving g c κs within = served_on c.requires.serving
    c.in_ok-send_come.ensures.served

pub make_room-requires-clause-serving : goal.make_room-requires-clause-serving
make_room-requires-clause-serving g c κs within = served_on c.requires.serving
    (both_served c.in_ok-send_come.ensures.served c.in_ok-write_found.ensures.served)

pub returns-in_err-send_come-clause-served : goal.returns-in_err-send_come-clause-served
returns-in_err-send_come-clause-served g c =
    passed_up c.from_residual.ensures.1 c.in_err-send_come.ensures.served

pub returns-in_err-write_found-clause-served : goal.returns-in_err-write_found-clause-served
returns-in_err-write_found-clause-served g c = passed_up c.from_residual-in_err-write_found.ensures.1
    (both_served c.in_ok-send_come.ensures.served c.in_err-write_found.ensures.served)

pub returns-in_err-make_room-clause-served : goal.returns-in_err-make_room-clause-served
returns-in_err-make_room-clause-served g c = passed_up c.from_residual-in_err-make_room.ensures.1
    (both_served c.in_ok-send_come.ensures.served
    (both_served c.in_ok-write_found.ensures.served c.in_err-make_room.ensures.served))

pub returns-clause-served : goal.returns-clause-served
returns-clause-served g c = both_served c.in_ok-send_come.ensures.served
    (both_served c.in_ok-write_found.ensures.served c.in_ok-make_room.ensures.served)
