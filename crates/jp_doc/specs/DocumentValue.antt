-- What is always true of the values of a document.
use Rattle.std.specs.Prelude.{◌≡◌, ◌≤◌, false, ℤ, Option, Some, None}
use Rattle.serde_json.specs.Data.{depth}
use Rattle.serde_json.specs.View.{view}
use Rattle.serde_json.specs.Written.{has_float}
use Rattle.serde_json.specs.declared.value.Value.{Value}
use Rattle.jp_doc.specs.Json.{Json, null, truth, number, text, array, object, value_of}
use Rattle.jp_doc.specs.Reading.{max_items, has_long_array}
use Rattle.jp_doc.specs.Rising.{IsRising}
use Rattle.jp_number.specs.Number.{whole, written}

-- Its numbers are whole, its arrays short enough, its nesting no deeper than the JSON crate reads, and its
-- names rise.
pub record IsDocumentValue (v : Value) : Type 0 where
  pub whole_numbers : has_float (view v) ≡ false
  pub short_arrays : has_long_array max_items (value_of v) ≡ false
  pub nesting : depth (view v) ≤ 127
  pub rising_names : IsRising (value_of v)

-- the whole number that a value is, if it is one
abbrev pub whole_in : Json → Option ℤ
whole_in (number (whole z)) = Some z
whole_in (number (written s)) = None
whole_in null = None
whole_in (truth b) = None
whole_in (text s) = None
whole_in (array vs) = None
whole_in (object ms) = None
