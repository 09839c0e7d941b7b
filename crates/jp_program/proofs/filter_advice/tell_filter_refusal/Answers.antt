use Rattle.std.proofs.Common.{◌∙◌, ap, inl, inr, refl}
use Rattle.jp_program.specs.Told.{IsFilterExplained}
use Rattle.jp_program.proofs.Noted.{filter_told_both, shown_in}
use Rattle.jp_program.proofs.filter_advice.tell_filter_refusal.Goals as goal

pub returns-in-Ok-Some-clause-told : goal.returns-in-Ok-Some-clause-told
returns-in-Ok-Some-clause-told g c = λ w wants v.
    let given = c.in-Ok-Some.ensures c.args.refusal w wants v in
    let shown = shown_in w IsFilterExplained _ c.in-Ok-Some.lines _ c.in-Ok-Some.field-0-is given
    c.as_str.ensures.value in
    filter_told_both w c.args.refusal _ _ _ _ _ _ _ c.filter_line.ensures (inl shown) c.note_text.ensures.told
    (λ bad. ap g.N.Sink.failed (c.note_text-in-Ok-Some.ensures.untouched bad) ∙ bad)
    c.note_text-in-Ok-Some.ensures.told

pub returns-in-Err-clause-told : goal.returns-in-Err-clause-told
returns-in-Err-clause-told g c = λ w wants v.
    filter_told_both w c.args.refusal _ _ _ _ _ _ _ c.filter_line.ensures (inr refl) c.note_text.ensures.told
    (λ bad. ap g.N.Sink.failed (c.note_text-in-Err.ensures.untouched bad) ∙ bad)
    c.note_text-in-Err.ensures.told
