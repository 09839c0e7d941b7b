use Rattle.std.proofs.Common.{[], ap, ◌∙◌}
use Rattle.jp_node.specs.Part.{part_value}
use Rattle.jp_value.specs.RightTests.{tests}
use Rattle.jp_eval.specs.Nodelist.{nodelist}
use Rattle.jp_found.specs.Aggregates.{tells}
use Rattle.jp_eval.proofs.context.Context.answer.Goals as goal

pub returns-in-None : goal.returns-in-None
returns-in-None c = λ n.
    let root = part_value c.args.self.now.root in
    ap (λ q. tells c.args.want (nodelist tests root q n) c.of_one.result) c.in-None.ensures
    ∙ c.of_one.ensures []
