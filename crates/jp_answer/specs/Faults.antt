-- Faulty lines.
use Rattle.std.specs.Prelude.{ℕ, Bool, List, [], ◌∷◌, length, Option, Some, None, Result, Ok, Err, is_err}
use Rattle.std.specs.List.{filter}
use Rattle.jp_number.specs.declared.numbers.Numbers.{Numbers}
use Rattle.jp_doc.specs.Json.{Json}
use Rattle.jp_doc.specs.Lines.{Line}
use Rattle.jp_doc.specs.ReadingIn.{reading_in}
use Rattle.jp_doc.specs.declared.fault.DocFault.{DocFault}

-- what is wrong with a line, if anything
abbrev pub fault_in : Result Json DocFault → Option DocFault
fault_in (Ok root) = None
fault_in (Err fault) = Some fault

-- a line's number and fault, or what follows it has
abbrev pub fault_or : ℕ → Result Json DocFault → Option (ℕ × DocFault) → Option (ℕ × DocFault)
fault_or number (Ok root) others = others
fault_or number (Err fault) others = Some (number, fault)

-- where documents may have these numbers:
module _ (numbers : Numbers) where
  -- the first faulty line with its fault, if there is one
  abbrev pub first_fault : List Line → Option (ℕ × DocFault)
  first_fault [] = None
  first_fault (l ∷ ls) = fault_or l.0 (reading_in numbers l.1) (first_fault ls)

  -- the line holds no document
  abbrev pub is_faulty : Line → Bool
  is_faulty l = is_err (reading_in numbers l.1)

  abbrev pub faulty_lines : List Line → ℕ
  faulty_lines ls = length (filter is_faulty ls)
