use Rattle.jp_run.proofs.Serving.{both_served, none_served, passed_up, served_on}
use Rattle.jp_run.proofs.fronts.make_room.Goals as goal

pub loop-sink-init : goal.loop-sink-init
loop-sink-init g c = none_served c.requires.serving

pub write_next-requires-clause-serving : goal.write_next-requires-clause-serving
write_next-requires-clause-serving g c κs within = served_on c.requires.serving c.loop-sink.invariant

pub returns-in_err-write_next-clause-served : goal.returns-in_err-write_next-clause-served
returns-in_err-write_next-clause-served g c = passed_up c.from_residual.ensures.1
    (both_served c.loop-sink.invariant c.in_err-write_next.ensures.served)

pub loop-sink-preserved : goal.loop-sink-preserved
loop-sink-preserved g c = both_served c.loop-sink.invariant c.in_ok-write_next.ensures.served

pub write_all-requires-clause-serving : goal.write_all-requires-clause-serving
write_all-requires-clause-serving g c κs within = served_on c.requires.serving c.loop-sink.invariant

pub returns-in_err-write_all-clause-served : goal.returns-in_err-write_all-clause-served
returns-in_err-write_all-clause-served g c = passed_up c.from_residual-in_err-write_all.ensures.1
    (both_served c.loop-sink.invariant c.in_err-write_all.ensures.served)

pub answer_behind-requires-clause-serving : goal.answer_behind-requires-clause-serving
answer_behind-requires-clause-serving g c κs within =
    served_on c.requires.serving (both_served c.loop-sink.invariant c.in_ok-write_all.ensures.served)

pub returns-in_err-answer_behind-clause-served : goal.returns-in_err-answer_behind-clause-served
returns-in_err-answer_behind-clause-served g c = passed_up c.from_residual-in_err-answer_behind.ensures.1
    (both_served c.loop-sink.invariant
    (both_served c.in_ok-write_all.ensures.served c.in_err-answer_behind.ensures.served))

pub returns-in_ok-answer_behind-clause-served : goal.returns-in_ok-answer_behind-clause-served
returns-in_ok-answer_behind-clause-served g c = both_served c.loop-sink.invariant
    (both_served c.in_ok-write_all.ensures.served c.in_ok-answer_behind.ensures.served)
