use Rattle.jp_eval.specs.inner.Base.{base_of}
use Rattle.jp_eval.specs.inner.Walk.{value_given}
use Rattle.jp_found.proofs.Rooting.{length_known}
use Rattle.jp_eval.proofs.context.Context.known_length.Goals as goal

pub returns-in-Some : goal.returns-in-Some
returns-in-Some c = λ n.
    let known = c.in-Some.known.now in
    length_known known.length known.answer (value_given (base_of c.args.self.now) c.args.giver.now n)
    known.length_is (c.in-Some.ensures n)
