use Rattle.jp_run.proofs.Serving.{both_served, none_served, passed_up, served_on}
use Rattle.jp_run.proofs.fronts.write_all.Goals as goal

pub loop-sink-init : goal.loop-sink-init
loop-sink-init g c = none_served c.requires.serving

pub write_next-requires-clause-serving : goal.write_next-requires-clause-serving
write_next-requires-clause-serving g c κs within = served_on c.requires.serving c.loop-sink.invariant

pub returns-in_err-write_next-clause-served : goal.returns-in_err-write_next-clause-served
returns-in_err-write_next-clause-served g c = passed_up c.from_residual.ensures.1
    (both_served c.loop-sink.invariant c.in_err-write_next.ensures.served)

pub loop-sink-preserved : goal.loop-sink-preserved
loop-sink-preserved g c = both_served c.loop-sink.invariant c.in_ok-write_next.ensures.served
