use Rattle.std.proofs.Common.{rules, sym, ap, ◌∙◌, ◌<◌, length, arith, Some, None, option_map}
use Rattle.jp_node.specs.Part.{part_value}
use Rattle.jp_output.proofs.Steps.{led_on, led_to_end}
use Rattle.jp_output.proofs.field.Field.value_in.Goals as goal

pub loop-step-preserved : goal.loop-step-preserved
loop-step-preserved c =
    let h : c.loop-step.step-index < length c.args.self.now.steps.items = search (rules, arith) in
    c.loop-step.invariant
    ∙ led_on c.args.self.now.steps.items c.loop-step.step-index c.step-item.result
    (part_value c.loop-step.last) (Some (part_value c.in_ok-last.last)) h (search rules)
    (sym (ap (option_map part_value) c.in_ok-last.was) ∙ c.step_from.ensures)

pub returns-in_err-last : goal.returns-in_err-last
returns-in_err-last c =
    let h : c.loop-step.step-index < length c.args.self.now.steps.items = search (rules, arith) in
    ap (option_map part_value) c.from_residual.ensures
    ∙ sym (c.loop-step.invariant
    ∙ led_on c.args.self.now.steps.items c.loop-step.step-index c.step-item.result
    (part_value c.loop-step.last) None h (search rules)
    (sym (ap (option_map part_value) c.in_err-last.was) ∙ c.step_from.ensures))

pub returns : goal.returns
returns c =
    sym (c.loop-step.invariant
    ∙ led_to_end c.args.self.now.steps.items c.loop-step.step-index (part_value c.loop-step.last)
    (search rules))
