-- A working file, which nobody has to believe: what a head stands for, for private clauses alone.
use Rattle.std.specs.Prelude.{ℕ, List, [], Option, Some, None, Vec}
use Rattle.std.specs.declared.alloc.Global.{Global}
use Rattle.jp_output.specs.declared.shared.Shared.{Shared}

abbrev pub bytes_of : Option (Shared (Vec ℕ Global)) → List ℕ
bytes_of None = []
bytes_of (Some s) = s.shown.value.value.items
