use Rattle.std.proofs.Common.{rules, ap, ◌∙◌, ◌<◌, length, arith, List, ◌++◌, map}
use Rattle.jp_output.specs.Rows.{step_of}
use Rattle.jp_output.specs.declared.field.FieldStep.{FieldStep}
use Rattle.jp_output.proofs.Copied.{one_more, no_more}
use Rattle.jp_output.proofs.field.Field.copy.Goals as goal

pub loop-step-init : goal.loop-step-init
loop-step-init c = ap (λ (xs : List FieldStep). map step_of xs ++ map step_of c.args.self.now.steps.items)
    c.in_ok-steps.ensures.items

pub loop-step-preserved : goal.loop-step-preserved
loop-step-preserved c =
    let h : c.loop-step.step-index < length c.args.self.now.steps.items = search (rules, arith) in
    one_more step_of c.args.self.now.steps.items c.loop-step.step-index c.step-item.result
    c.loop-step.steps.items c.push.new.self.items c.in_ok-copy.field-0 h (search rules)
    c.in_ok-push.ensures.items c.in_ok-copy.ensures
    ∙ c.loop-step.invariant

pub returns : goal.returns
returns c = no_more step_of c.args.self.now.steps.items c.loop-step.step-index c.loop-step.steps.items
    (search rules) ∙ c.loop-step.invariant
