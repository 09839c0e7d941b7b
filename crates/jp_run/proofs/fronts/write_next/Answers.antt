use Rattle.std.proofs.Common.{ap}
use Rattle.jp_run.proofs.Serving.{both_served, same_served, served_on}
use Rattle.jp_run.proofs.fronts.write_next.Goals as goal

pub write_front-requires-clause-serving : goal.write_front-requires-clause-serving
write_front-requires-clause-serving g c κs within = served_on c.requires.serving (same_served
    (ap (λ d. d.items) c.await_front.ensures.sent) c.await_front.ensures.bytes c.await_front.ensures.asked
    c.requires.serving)

pub returns-clause-served : goal.returns-clause-served
returns-clause-served g c = both_served (same_served (ap (λ d. d.items) c.await_front.ensures.sent)
    c.await_front.ensures.bytes c.await_front.ensures.asked c.requires.serving) c.write_front.ensures.served
