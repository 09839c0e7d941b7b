-- Which numbers tokens hold, and what a reader by the grammar alone answers: a working file, which nobody has
-- to believe.
use Rattle.std.specs.Prelude.{Bool, true, false, not, ◌&&◌, List, [], ◌∷◌, Option, Some, None, Result, Err}
use Rattle.std.specs.Prelude.{if◌then◌else◌}
use Rattle.json.specs.Json as text
use Rattle.json.specs.Token.{Token}
use Rattle.serde_json.specs.Data.{Num}
use Rattle.serde_json.specs.Find.{is_float}
use Rattle.jp_doc.specs.Json.{Json}
use Rattle.jp_doc.specs.Reading.{unless_long}
use Rattle.jp_doc.specs.Tree.{text_number, tree_json}
use Rattle.jp_doc.specs.declared.fault.DocFault.{DocFault}
use Rattle.jp_doc.specs.declared.fault.DocFault.TheVariants.{Unreadable, LongNumber}
use Rattle.jp_flat.specs.inner.Nesting.{nests_from}
use Rattle.jp_number.specs.Number.{written, is_short}

-- the JSON crate reads a number as a whole one of 64 bits
abbrev pub is_whole_number : Option Num → Bool
is_whole_number None = false
is_whole_number (Some n) = not (is_float n)

-- each number is within the limits
abbrev pub are_short : List Token → Bool
are_short [] = true
are_short (Token.begin_object ∷ ts) = are_short ts
are_short (Token.end_object ∷ ts) = are_short ts
are_short (Token.begin_array ∷ ts) = are_short ts
are_short (Token.end_array ∷ ts) = are_short ts
are_short (Token.key s ∷ ts) = are_short ts
are_short (Token.string s ∷ ts) = are_short ts
are_short (Token.number s ∷ ts) = is_short (text_number s) && are_short ts
are_short (Token.boolean b ∷ ts) = are_short ts
are_short (Token.null ∷ ts) = are_short ts
are_short (Token.bad ∷ ts) = are_short ts

-- the answer, from a pass over the tokens of a line that the kit reads as this tree
abbrev pub pass_answer : List Token → text.Json → Result Json DocFault
pass_answer ts j =
    if nests_from 0 ts then (if are_short ts then unless_long (tree_json j) else Err LongNumber)
    else Err Unreadable

-- the same by the text of each number
abbrev pub are_within : List Token → Bool
are_within [] = true
are_within (Token.begin_object ∷ ts) = are_within ts
are_within (Token.end_object ∷ ts) = are_within ts
are_within (Token.begin_array ∷ ts) = are_within ts
are_within (Token.end_array ∷ ts) = are_within ts
are_within (Token.key s ∷ ts) = are_within ts
are_within (Token.string s ∷ ts) = are_within ts
are_within (Token.number s ∷ ts) = is_short (written s) && are_within ts
are_within (Token.boolean b ∷ ts) = are_within ts
are_within (Token.null ∷ ts) = are_within ts
are_within (Token.bad ∷ ts) = are_within ts

-- the fault that a pass over the tokens finds, and the answer that comes of it
abbrev pub pass_fault : List Token → Option DocFault
pass_fault ts =
    if nests_from 0 ts then (if are_within ts then None else Some LongNumber) else Some Unreadable

abbrev pub by_fault : Option DocFault → Json → Result Json DocFault
by_fault None v = unless_long v
by_fault (Some f) v = Err f
