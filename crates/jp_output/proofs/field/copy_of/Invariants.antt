use Rattle.std.proofs.Common.{◌≡◌, ◌++◌, drop, map}
use Rattle.jp_output.specs.Rows.{field_of}
use Rattle.jp_output.proofs.field.copy_of.Given as goal

-- with the fields that are left there are all of them
abbrev pub invariant-loop-field : goal.invariant-loop-field
invariant-loop-field l = map field_of l.copy.items ++ map field_of (drop l.field-index l.fields)
    ≡ map field_of l.fields
