use Rattle.jp_eval.specs.inner.Base.{base_of}
use Rattle.jp_eval.proofs.Uniformity.{true_along, false_along}
use Rattle.jp_eval.proofs.split.settled_along.Goals as goal

pub returns-in-Some-true : goal.returns-in-Some-true
returns-in-Some-true c = λ ns. rw c.in-Test.is
    (true_along (base_of c.args.context.now) c.in-Test.test.now c.in-Test.rest.now
    (rw (c.in-Some-true.is, c.in-Some-true.field-0-test) at c.known_truth.ensures) ns)

pub returns-in-Some-false : goal.returns-in-Some-false
returns-in-Some-false c = λ ns. rw c.in-Test.is
    (false_along (base_of c.args.context.now) c.in-Test.test.now c.in-Test.rest.now
    (rw (c.in-Some-false.is, c.in-Some-false.field-0-test) at c.known_truth.ensures) ns)
