-- Texts without their quotes.
use Rattle.std.specs.Prelude.{ℕ, ◌==◌, List, [], ◌∷◌, if◌then◌else◌, encode_utf8_all}
use Rattle.std.specs.List.{flat_map}
use Rattle.json.specs.Print.{escape_byte}
use Rattle.jp_doc.specs.Json.{Json, text}
use Rattle.jp_doc.specs.Location.{Node}
use Rattle.jp_output.specs.OutputLine.{value_text, line_of}

-- a byte of a text as JSON has it (RFC 8259, 7), but a quotation mark stands as it is
abbrev pub unquoted_byte : ℕ → List ℕ
unquoted_byte b = if b == 34 then 34 ∷ [] else escape_byte b

-- a text without its two quotes; of any other value its compact text
abbrev pub unquoted_text : Json → List ℕ
unquoted_text (text s) = flat_map unquoted_byte (encode_utf8_all s)
unquoted_text v = value_text v

abbrev pub text_line : Node → List ℕ
text_line = line_of unquoted_text
