use Rattle.std.proofs.Common.{◌<◌, length, rules, arith, sym, ap, ◌∙◌, List, option_map}
use Rattle.jp_compiled.specs.Parts.{segments_in}
use Rattle.jp_output.specs.Rows.{step_of}
use Rattle.jp_output.specs.declared.field.FieldStep.{FieldStep}
use Rattle.jp_field.specs.FieldText.{path_in}
use Rattle.jp_field.proofs.Segments.{none_behind, no_more, no_step, one_more, path_behind}
use Rattle.jp_field.proofs.steps.field_of_segments.Goals as goal

pub loop-segment-init : goal.loop-segment-init
loop-segment-init c = λ roots.
    let all = path_in (segments_in roots c.args.segments.now) in
    sym (ap (λ (xs : List FieldStep). path_behind xs all) c.in_ok-steps.ensures.items ∙ none_behind all)

pub loop-segment-preserved : goal.loop-segment-preserved
loop-segment-preserved c = λ roots.
    let h : c.loop-segment.segment-index < length c.args.segments.now = search (rules, arith) in
    c.loop-segment.invariant roots
    ∙ one_more roots c.args.segments.now c.loop-segment.segment-index c.segment-item.result
    c.loop-segment.steps.items c.push.new.self.items c.in-Some.step h (search rules)
    (c.in_ok-step.ensures roots ∙ ap (option_map step_of) c.in-Some.is) c.in_ok-push.ensures.items

pub returns-in_default : goal.returns-in_default
returns-in_default c = λ roots.
    let h : c.loop-segment.segment-index < length c.args.segments.now = search (rules, arith) in
    c.loop-segment.invariant roots
    ∙ no_step roots c.args.segments.now c.loop-segment.segment-index c.segment-item.result
    c.loop-segment.steps.items h (search rules)
    (c.in_ok-step.ensures roots ∙ ap (option_map step_of) c.in_default.is)

pub returns : goal.returns
returns c = λ roots. c.loop-segment.invariant roots
    ∙ no_more roots c.args.segments.now c.loop-segment.segment-index c.loop-segment.steps.items (search rules)
