-- Output lines.
use Rattle.std.specs.Prelude.{ℕ, Bool, List, [], ◌∷◌, ◌++◌, if◌then◌else◌, codes, decimal, encode_utf8_all}
use Rattle.json.specs.Print.{quoted}
use Rattle.jp_doc.specs.Json as json
use Rattle.jp_doc.specs.Json.{Text, Json, null, truth, text, array, object, Items, no_items, add_item}
use Rattle.jp_doc.specs.Json.{Members, no_members, add_member}
use Rattle.jp_doc.specs.Location.{Location, Node}
use Rattle.jp_number.specs.Number.{number_text}
use Rattle.jp_node.specs.Path.{path_text}

-- the name of a truth value (RFC 8259, 3)
abbrev pub truth_text : Bool → List ℕ
truth_text b = if b then codes "true" else codes "false"

-- a text between quotes, with the shortest escapes (RFC 8259, 7), in UTF-8
abbrev pub quoted_text : Text → List ℕ
quoted_text s = quoted (encode_utf8_all s)

-- The compact text of a value (RFC 8259, 3 to 7): no space stands in it but within texts, and items and
-- members stand in their order.
abbrev mutual
  pub value_text : Json → List ℕ
  value_text null = codes "null"
  value_text (truth b) = truth_text b
  value_text (json.number x) = number_text x
  value_text (text s) = quoted_text s
  value_text (array vs) = codes "[" ++ items_text vs ++ codes "]"
  value_text (object ms) = codes "{" ++ members_text ms ++ codes "}"

  -- the first item, and each further one behind a comma
  pub items_text : Items → List ℕ
  items_text no_items = []
  items_text (add_item v vs) = value_text v ++ further_items vs

  pub further_items : Items → List ℕ
  further_items no_items = []
  further_items (add_item v vs) = codes "," ++ value_text v ++ further_items vs

  -- the first member, its name and its value with a colon between, and each further one behind a comma
  pub members_text : Members → List ℕ
  members_text no_members = []
  members_text (add_member k v ms) = quoted_text k ++ codes ":" ++ value_text v ++ further_members ms

  pub further_members : Members → List ℕ
  further_members no_members = []
  further_members (add_member k v ms) =
      codes "," ++ quoted_text k ++ codes ":" ++ value_text v ++ further_members ms

-- the document's number, a tab, the normalized path, a tab, the value's text, and a line feed
abbrev pub line_text : ℕ → Location → Json → List ℕ
line_text number at v = decimal number ++ (9 ∷ encode_utf8_all (path_text at) ++
    (9 ∷ value_text v ++ 10 ∷ []))

abbrev pub node_line : ℕ → Node → List ℕ
node_line number n = line_text number n.location n.value

-- The bytes behind which each line stands, the number of the last document, and the lines of documents so
-- far: what a further node of it does to them.
abbrev pub put_line : List ℕ × ℕ × List ℕ → Node → List ℕ × ℕ × List ℕ
put_line (head, number, bytes) n = (head, number, bytes ++ (head ++ node_line number n))

-- the value's text, in some way of writing values, and this byte
abbrev pub ended_by : ℕ → (Json → List ℕ) → Node → List ℕ
ended_by ending text_of n = text_of n.value ++ ending ∷ []

-- the same with a line feed
abbrev pub line_of : (Json → List ℕ) → Node → List ℕ
line_of = ended_by 10

abbrev pub value_line : Node → List ℕ
value_line = line_of value_text

-- The byte behind each value's text, and the bytes so far: what a further node does to them.
abbrev pub put_ended : (Json → List ℕ) → ℕ × List ℕ → Node → ℕ × List ℕ
put_ended text_of (ending, bytes) n = (ending, bytes ++ ended_by ending text_of n)
