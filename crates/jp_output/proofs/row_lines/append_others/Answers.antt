use Rattle.std.proofs.Common.{rules, ◌∙◌, ◌<◌, length, arith}
use Rattle.jp_node.specs.Part.{part_value}
use Rattle.jp_output.proofs.RowFields.{one_more, no_more}
use Rattle.jp_output.proofs.row_lines.append_others.Goals as goal

pub loop-field-preserved : goal.loop-field-preserved
loop-field-preserved c =
    let h : c.loop-field.field-index < length c.args.fields.now = search (rules, arith) in
    one_more c.args.fields.now c.loop-field.field-index (part_value c.args.value) c.field-item.result
    c.loop-field.out.items c.push.new.self.items c.append_field.new.out.items h (search rules)
    (search rules) (search rules) ∙ c.loop-field.invariant

pub returns : goal.returns
returns c =
    no_more c.args.fields.now c.loop-field.field-index (part_value c.args.value) c.loop-field.out.items
    (search rules) ∙ c.loop-field.invariant
