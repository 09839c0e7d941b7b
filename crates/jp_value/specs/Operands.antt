-- What is compared: a value, or nothing.
use Rattle.std.specs.Prelude.{◌≡◌, Option, Some, None, false}
use Rattle.std.specs.Str.{chars}
use Rattle.serde_json.specs.View.{view}
use Rattle.serde_json.specs.Written.{has_float}
use Rattle.jp_doc.specs.Json.{Json, null, truth, number, text, array, object, value_of}
use Rattle.jp_number.specs.Number.{whole}
use Rattle.jp_value.specs.declared.comparison.Operand.{Operand}
use Rattle.jp_value.specs.declared.comparison.Operand.TheVariants.{Nothing, Null, Truth, Whole, Text, Lent}

-- the value that an operand means, or nothing
abbrev pub operand_value : Operand → Option Json
operand_value Nothing = None
operand_value Null = Some null
operand_value (Truth b) = Some (truth b)
operand_value (Whole z) = Some (number (whole z))
operand_value (Text s) = Some (text (chars s.now))
operand_value (Lent v) = Some (value_of v.now)

-- all numbers of a value that is lent are whole
abbrev pub HasWholeNumbers : Operand → Type 0
HasWholeNumbers (Lent v) = has_float (view v.now) ≡ false
HasWholeNumbers _ = Unit {0}

-- an array or an object
abbrev pub IsCompound : Json → Type 0
IsCompound (array vs) = Unit {0}
IsCompound (object ms) = Unit {0}
IsCompound _ = ⊥

-- a value that is lent is an array or an object
abbrev pub IsPlain : Operand → Type 0
IsPlain (Lent v) = IsCompound (value_of v.now)
IsPlain _ = Unit {0}
