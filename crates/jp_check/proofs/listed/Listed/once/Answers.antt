use Rattle.std.proofs.Common.{◌∙◌}
use Rattle.std.proofs.lemmas.Result.{IfOk-weaker}
use Rattle.jp_compiled.specs.Parts.{roots_of}
use Rattle.jp_check.proofs.MakingSteps.{begins_itself}
use Rattle.jp_check.proofs.listed.Listed.once.Goals as goal

pub returns-then-is_uniform-clause-made : goal.returns-then-is_uniform-clause-made
returns-then-is_uniform-clause-made c =
    IfOk-weaker c.add_test.result _ _
    (λ l h x r all on. h all on ∙ r (roots_of c.args.self.now.roots.items) (begins_itself _))
    c.add_test.ensures.made
