use Rattle.std.proofs.Common.{◌≡◌, ◌++◌, drop, map}
use Rattle.jp_node.specs.Part.{part_value}
use Rattle.jp_output.specs.Rows.{behind_tabs, field_of}
use Rattle.jp_output.proofs.row_lines.append_others.Given as goal

-- with the fields that are left there are all of them
abbrev pub invariant-loop-field : goal.invariant-loop-field
invariant-loop-field l =
    l.out.items ++ behind_tabs (map field_of (drop l.field-index l.fields)) (part_value l.value)
    ≡ l.initial.out.items ++ behind_tabs (map field_of l.fields) (part_value l.value)
