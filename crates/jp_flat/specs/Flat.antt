-- The value that the tokens of a line begin with (RFC 8259).
use Rattle.std.specs.Prelude.{List, Option, Some, None}
use Rattle.json.specs.Token.{Token}
use Rattle.json.specs.Json as text
use Rattle.serde_json.specs.Read.{max_depth}
use Rattle.jp_doc.specs.Json.{Json, null}
use Rattle.jp_doc.specs.Tree.{tree_json}

abbrev pub value_read : Option (text.Json × List Token) → Json
value_read None = null
value_read (Some p) = tree_json p.0

-- the value that the tokens begin with, and null where they begin with none
abbrev pub value_at : List Token → Json
value_at ts = value_read (text.value max_depth ts)
