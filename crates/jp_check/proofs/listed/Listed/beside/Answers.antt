use Rattle.std.proofs.Common.{ap, ◌∙◌}
use Rattle.jp_compiled.specs.Parts.{roots_of, logical_in, truth_argument}
use Rattle.jp_check.proofs.MakingSteps.{begins_itself}
use Rattle.jp_check.proofs.listed.Listed.beside.Goals as goal

pub returns-clause-made : goal.returns-clause-made
returns-clause-made c = λ f x r all h.
    let before = roots_of c.args.self.now.roots.items in
    ap (truth_argument f) (ap (logical_in all) c.in_ok-new.ensures.ok ∙ c.in_ok-test.ensures.made all h
    ∙ ap (logical_in before) c.into_inner.ensures)
    ∙ r before (begins_itself before)
