-- What is kept of the value of a `$` query.
use Rattle.std.specs.Prelude.{◌≡◌, Bool, true, Option, Some, None}
use Rattle.std.specs.Str.{chars}
use Rattle.jp_doc.specs.Json.{Json, number, text}
use Rattle.jp_number.specs.Number.{whole}
use Rattle.jp_found.specs.Identical.{identical}
use Rattle.jp_value.specs.Functions.{length_value}
use Rattle.jp_value.specs.Ordered.{ordered_value}
use Rattle.jp_value.specs.declared.ordered.Ordered.{Ordered}
use Rattle.jp_value.specs.declared.read_pattern.ReadPattern.{ReadPattern}
use Rattle.jp_found.specs.Aggregates.{told}
use Rattle.jp_found.specs.declared.aggregates.Aggregate.{Aggregate}
use Rattle.jp_found.specs.declared.root_answer.Length.{Length}
use Rattle.jp_found.specs.declared.root_answer.Length.TheVariants.{Unknown, Nothing, Number}

-- the length of the value that is told, where it is kept
abbrev pub is_length : Length → Aggregate → Bool
is_length Unknown a = true
is_length Nothing a = identical None (length_value (told a))
is_length (Number n) a = identical (Some (number (whole n))) (length_value (told a))

-- the length of a value, or nothing, where it is known
abbrev pub IsLength : Length → Option Json → Type 0
IsLength Unknown v = Unit {0}
IsLength Nothing v = None ≡ length_value v
IsLength (Number n) v = Some (number (whole n)) ≡ length_value v

-- the pattern's text is the value that is told, where it is kept
abbrev pub is_pattern : Option ReadPattern → Aggregate → Bool
is_pattern None a = true
is_pattern (Some r) a = identical (Some (text (chars r.text.now))) (told a)

-- what is put in order is the value that is told, where it is kept
abbrev pub is_in_order : Option Ordered → Aggregate → Bool
is_in_order None a = true
is_in_order (Some o) a = identical (Some (ordered_value o)) (told a)
