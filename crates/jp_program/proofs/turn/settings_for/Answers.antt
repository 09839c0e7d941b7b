use Rattle.std.proofs.Common.{◌∙◌, List, Option, ap, map, option_map}
use Rattle.std.specs.Borrow.{Bor}
use Rattle.clap.specs.Walk.{Text}
use Rattle.jp_output.specs.Rows.{field_of}
use Rattle.jp_output.specs.declared.field.Field.{Field}
use Rattle.jp_run.specs.Answered.{head_behind}
use Rattle.jp_program.proofs.Manners.{counted_so, manner_so, numbering_so, uncounted_so}
use Rattle.jp_program.proofs.turn.settings_for.Goals as goal

pub returns-then-wanted-clause-manner : goal.returns-then-wanted-clause-manner
returns-then-wanted-clause-manner c =
    let form = c.with_output.ensures.same in
    let same = c.with_fields.ensures.same in
    counted_so _ _ _ _ _ _ _ _ _ _ _ _ c.if-wanted.true
    (numbering_so _ _ _ _ (same.7 ∙ form.6) (same.8 ∙ form.8)) (same.5 ∙ c.with_output.ensures.output)
    (ap (λ (fs : Bor (List Field)). map field_of fs.now) c.with_fields.ensures.fields) (same.4 ∙ form.4)
    (same.3 ∙ form.3)

pub returns-clause-manner : goal.returns-clause-manner
returns-clause-manner c =
    let same = c.with_name.ensures.same in
    let first = c.with_fields-settings.ensures.same in
    uncounted_so _ _ _ _ _ _ c.if-wanted.false
    (manner_so _ _ _ _ _ _ _ _ _ _ _ _ _ _ (numbering_so _ _ _ _ (same.6 ∙ first.7) (same.8 ∙ first.8))
    (same.5 ∙ first.5)
    (ap (λ (o : Option (Bor Text)). head_behind (option_map (λ n. n.now) o)) c.with_name.ensures.name
    ∙ c.head_name.ensures) (same.9 ∙ first.9)
    (ap (λ (fs : Bor (List Field)). map field_of fs.now) (same.10 ∙ c.with_fields-settings.ensures.fields)
    ∙ ap (λ (fs : List Field). map field_of fs) c.as_slice.ensures.value) (same.4 ∙ first.4) (same.3 ∙
    first.3))
