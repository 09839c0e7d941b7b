-- What the literals and the numbers of a query stand for.
use Rattle.std.specs.Prelude.{ℤ, Option, option_map}
use Rattle.jp_doc.specs.Json as json
use Rattle.jp_doc.specs.Json.{Json}
use Rattle.jp_tree.specs.Tree.{Text, Literal, number, text, truth, null}
use Rattle.jp_types.specs.Numbers.{whole_number, number_value}

-- the value of a literal
abbrev pub literal_value : Literal → Json
literal_value (number t) = json.number (number_value t)
literal_value (text t) = json.text t
literal_value (truth b) = json.truth b
literal_value null = json.null

-- a number that is written or left out
abbrev pub written_value : Option Text → Option ℤ
written_value t = option_map whole_number t
