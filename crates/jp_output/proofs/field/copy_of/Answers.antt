use Rattle.std.proofs.Common.{rules, ap, ◌∙◌, ◌<◌, length, arith, List, ◌++◌, map}
use Rattle.jp_output.specs.Rows.{field_of}
use Rattle.jp_output.specs.declared.field.Field.{Field}
use Rattle.jp_output.proofs.Copied.{one_more, no_more}
use Rattle.jp_output.proofs.field.copy_of.Goals as goal

pub loop-field-init : goal.loop-field-init
loop-field-init c = ap (λ (xs : List Field). map field_of xs ++ map field_of c.args.fields.now)
    c.in_ok-copy.ensures.items

pub loop-field-preserved : goal.loop-field-preserved
loop-field-preserved c =
    let h : c.loop-field.field-index < length c.args.fields.now = search (rules, arith) in
    one_more field_of c.args.fields.now c.loop-field.field-index c.field-item.result
    c.loop-field.copy.items c.push.new.self.items c.in_ok-copy-2.field-0 h (search rules)
    c.in_ok-push.ensures.items c.in_ok-copy-2.ensures
    ∙ c.loop-field.invariant

pub returns : goal.returns
returns c = no_more field_of c.args.fields.now c.loop-field.field-index c.loop-field.copy.items
    (search rules) ∙ c.loop-field.invariant
