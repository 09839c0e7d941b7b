-- Texts as they are.
use Rattle.std.specs.Prelude.{◌≡◌, ℕ, List, encode_utf8_all}
use Rattle.std.specs.List.{AllByRecursion}
use Rattle.jp_doc.specs.Json.{Json, text}
use Rattle.jp_doc.specs.Location.{Node}
use Rattle.jp_output.specs.Fields.{times}
use Rattle.jp_output.specs.OutputLine.{value_text}

-- a text as it is, in UTF-8, with no quote and no escape; of any other value its compact text
abbrev pub raw_text : Json → List ℕ
raw_text (text s) = encode_utf8_all s
raw_text v = value_text v

-- a text in which U+0000 does not stand, or any other value
abbrev pub HasNoNull : Json → Type 0
HasNoNull (text s) = times 0 s ≡ 0
HasNoNull v = Unit {0}

-- such values of nodes
abbrev pub NodesHaveNoNull : List Node → Type 0
NodesHaveNoNull ns = AllByRecursion (λ n. HasNoNull n.value) ns
