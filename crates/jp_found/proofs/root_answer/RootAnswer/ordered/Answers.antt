use Rattle.jp_found.proofs.Rooting.{order_lent}
use Rattle.jp_found.proofs.root_answer.RootAnswer.ordered.Goals as goal

pub returns : goal.returns
returns c =
    order_lent (λ o. o.now) c.as_ref.result c.args.self.now.ordered c.args.self.now.answer
    c.as_ref.ensures.value c.args.self.now.ordered_is
