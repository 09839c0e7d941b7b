use Rattle.std.proofs.Common.{sym}
use Rattle.std.proofs.lemmas.Result.{IfOk-weaker}
use Rattle.jp_node.specs.Inside.{kind_value}
use Rattle.jp_found.proofs.Rooting.{in_order}
use Rattle.jp_found.proofs.root_answer.ordered_of.Goals as goal

pub returns-in-Some : goal.returns-in-Some
returns-in-Some c =
    IfOk-weaker c.put_in_order.result _ _
    (λ r h. in_order r c.args.answer (kind_value c.in-Some.kind) (sym c.in-Some.ensures.told) h)
    c.put_in_order.ensures
