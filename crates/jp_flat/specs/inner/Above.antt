-- A working file, which nobody has to believe: a name and the one before it, for a private clause alone.
use Rattle.std.specs.Prelude.{ℕ, List, Option, Some, None}
use Rattle.std.specs.Borrow.{Bor}
use Rattle.std.specs.Str.{chars}
use Rattle.jp_doc.specs.Json.{Text}
use Rattle.jp_doc.specs.Rising.{IsTextBelow}

abbrev pub IsAbove : Option (Bor (List ℕ)) → Text → Type 0
IsAbove None k = Unit {0}
IsAbove (Some s) k = IsTextBelow (chars s.now) k
