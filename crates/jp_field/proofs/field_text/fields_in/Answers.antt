use Rattle.std.proofs.Common.{◌≡◌, ◌∙◌, ◌<◌, ◌++◌, ap, sym, subst, rules, arith, length, List, map, []}
use Rattle.jp_output.specs.Rows.{Path, field_of}
use Rattle.jp_output.specs.declared.field.Field.{Field}
use Rattle.jp_field.specs.FieldText.{AreFields}
use Rattle.jp_field.proofs.OneField.{each_is, not_refused, now, read_all, read_more}
use Rattle.jp_field.proofs.field_text.fields_in.Goals as goal

pub loop-text-init : goal.loop-text-init
loop-text-init c = λ fs a. subst (λ (done : List Field). AreFields (map now c.args.texts.now) (map field_of
    done ++ fs))
    (sym c.in_ok-fields.ensures.items) a

pub loop-text-preserved : goal.loop-text-preserved
loop-text-preserved c =
    let h : c.loop-text.text-index < length c.args.texts.now = search (rules, arith) in
    read_more c.args.texts.now c.loop-text.text-index _ c.loop-text.fields.items c.push.new.self.items
    c.in-Ok.field
    h c.in_ok-push-in-Ok.ensures.items (rw c.in-Ok.is at c.in_ok-field.ensures.ok) c.loop-text.invariant

pub returns-in-Err : goal.returns-in-Err
returns-in-Err c =
    let h : c.loop-text.text-index < length c.args.texts.now = search (rules, arith) in
    record {
      some = tt;
      none = λ none fs a.
          let one = each_is c.args.texts.now fs c.loop-text.text-index _ a h in
          not_refused _ one.0 _ one.1 (rw c.in-Err.is at c.in_ok-field.ensures.refused);
    }

pub returns-clause-some : goal.returns-clause-some
returns-clause-some c = read_all c.args.texts.now c.loop-text.text-index c.loop-text.fields.items
    (search (rules, arith)) c.loop-text.invariant
