-- What a line is read as, by the numbers that a document may have (RFC 8259, 6).
use Rattle.std.specs.Prelude.{ℕ, Bool, false, not, ◌||◌, List, Option, Some, None, Result, Ok, Err}
use Rattle.std.specs.Prelude.{if◌then◌else◌}
use Rattle.std.specs.Str.{is_utf8}
use Rattle.json.specs.Json as grammar
use Rattle.jp_doc.specs.Json.{Json}
use Rattle.jp_doc.specs.Reading.{unless_long, reading}
use Rattle.jp_doc.specs.Tree.{tree_of, text_number, tree_json}
use Rattle.jp_number.specs.Number.{is_short}
use Rattle.jp_number.specs.declared.numbers.Numbers.{Numbers}
use Rattle.jp_number.specs.declared.numbers.Numbers.TheVariants.{Whole, Decimals}
use Rattle.jp_doc.specs.declared.fault.DocFault.{DocFault}
use Rattle.jp_doc.specs.declared.fault.DocFault.TheVariants.{LongLine, Unreadable, NotWhole, LongNumber}
use Rattle.jp_doc.specs.declared.fault.DocFault.TheVariants.{LongArray, Memory}

-- some number in the tree is over the limits, also where the last member of its name covers it
abbrev mutual
  pub has_long_number : grammar.Json → Bool
  has_long_number grammar.null = false
  has_long_number (grammar.boolean b) = false
  has_long_number (grammar.number s) = not (is_short (text_number s))
  has_long_number (grammar.string s) = false
  has_long_number (grammar.array js) = items_have_long_number js
  has_long_number (grammar.object ms) = members_have_long_number ms

  pub items_have_long_number : grammar.Items → Bool
  items_have_long_number grammar.no_items = false
  items_have_long_number (grammar.item j js) = has_long_number j || items_have_long_number js

  pub members_have_long_number : grammar.Members → Bool
  members_have_long_number grammar.no_members = false
  members_have_long_number (grammar.member k j ms) = has_long_number j || members_have_long_number ms

-- what is left to test of a tree: its numbers, and then the arrays of its value
abbrev pub document_of : Option grammar.Json → Result Json DocFault
document_of None = Err Unreadable
document_of (Some j) = if has_long_number j then Err LongNumber else unless_long (tree_json j)

-- what a line of at most so many bytes is read as by the grammar alone
abbrev pub tree_reading : List ℕ → Result Json DocFault
tree_reading line = if is_utf8 line then document_of (tree_of line) else Err Unreadable

-- the first, where it is a value or tells of a line that is too long, and else the second
abbrev pub or_else : Result Json DocFault → Result Json DocFault → Result Json DocFault
or_else (Ok v) other = Ok v
or_else (Err LongLine) other = Err LongLine
or_else (Err Unreadable) other = other
or_else (Err NotWhole) other = other
or_else (Err LongNumber) other = other
or_else (Err LongArray) other = other
or_else (Err Memory) other = other

-- The document that a line holds, or the first of the faults that applies. What is read with whole numbers
-- alone is read so with all.
abbrev pub reading_in : Numbers → List ℕ → Result Json DocFault
reading_in Whole line = reading line
reading_in Decimals line = or_else (reading line) (tree_reading line)
