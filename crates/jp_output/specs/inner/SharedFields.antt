-- A working file, which nobody has to believe: which fields are shared, for private clauses alone.
use Rattle.std.specs.Prelude.{List, [], Option, Some, None, Vec, map}
use Rattle.std.specs.declared.alloc.Global.{Global}
use Rattle.jp_output.specs.Rows.{Path, field_of}
use Rattle.jp_output.specs.declared.field.Field.{Field}
use Rattle.jp_output.specs.declared.shared.Shared.{Shared}

abbrev pub fields_of : Option (Shared (Vec Field Global)) → List Path
fields_of None = []
fields_of (Some s) = map field_of s.shown.value.value.items
