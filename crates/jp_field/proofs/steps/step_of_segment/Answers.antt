use Rattle.std.proofs.Common.{rules, arith, inl, inr}
use Rattle.std.proofs.lemmas.Result.{IfOk-weaker}
use Rattle.jp_field.proofs.Segments.{step_of_one, step_of_others}
use Rattle.jp_field.proofs.steps.step_of_segment.Goals as goal
use Rattle.jp_field.proofs.steps.step_of_segment.Goals.{in_default-via-then-as_slice-lt1}
use Rattle.jp_field.proofs.steps.step_of_segment.Goals.{in_default-via-else-as_slice-lt1+else-this-lt2}

pub returns-in-len1 : goal.returns-in-len1
returns-in-len1 c = IfOk-weaker c.step_of_selector.result _ _
    (λ step h roots. step_of_one roots c.args.segment.now c.as_slice.result.now c.selector-item.result _
    c.if-segment.false c.as_slice.ensures.value c.in-len1.len_at_least c.in-len1.len_below c.selector-item.is
    (h roots)) c.step_of_selector.ensures

pub returns-in_default : goal.returns-in_default
returns-in_default c = λ roots. step_of_others roots c.args.segment.now c.as_slice.result.now
    c.if-segment.false
    c.as_slice.ensures.value
    (elim c.in_default.branch [
      | in_default-via-then-as_slice-lt1 w ↦ inl (search (rules, arith))
      | in_default-via-else-as_slice-lt1+else-this-lt2 w ↦ inr (search (rules, arith))
    ])
