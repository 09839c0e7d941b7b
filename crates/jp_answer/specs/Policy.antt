-- How lines are read, and what is done where one is faulty: which of them are answered.
use Rattle.std.specs.Prelude.{ℕ, not, List, Option, None, Result}
use Rattle.std.specs.List.{take_while}
use Rattle.jp_number.specs.declared.numbers.Numbers.{Numbers}
use Rattle.jp_doc.specs.Json.{Json}
use Rattle.jp_doc.specs.Lines.{Line}
use Rattle.jp_doc.specs.ReadingIn.{reading_in}
use Rattle.jp_doc.specs.declared.fault.DocFault.{DocFault}
use Rattle.jp_answer.specs.Faults.{first_fault, is_faulty, faulty_lines}
use Rattle.jp_answer.specs.declared.on_fault.OnFault.{OnFault}
use Rattle.jp_answer.specs.declared.on_fault.OnFault.TheVariants.{Stop, KeepGoing}
use Rattle.jp_answer.specs.declared.policy.LinePolicy.{LinePolicy}

-- the policy of these two
abbrev pub policy : Numbers → OnFault → LinePolicy
policy numbers on_fault = record { numbers = numbers; on_fault = on_fault }

-- what a line is read as
abbrev pub reading_by : LinePolicy → List ℕ → Result Json DocFault
reading_by p line = reading_in p.numbers line

-- where documents may have these numbers:
module _ (numbers : Numbers) where
  -- the lines before the first faulty one, or all where the answer keeps going
  abbrev pub answered_on : OnFault → List Line → List Line
  answered_on Stop ls = take_while (λ l. not (is_faulty numbers l)) ls
  answered_on KeepGoing ls = ls

  abbrev pub stop_on : OnFault → List Line → Option (ℕ × DocFault)
  stop_on Stop ls = first_fault numbers ls
  stop_on KeepGoing ls = None

-- the lines that are answered
abbrev pub answered_lines : LinePolicy → List Line → List Line
answered_lines p ls = answered_on p.numbers p.on_fault ls

-- the faulty line at which the answer ends, with its fault, if it does
abbrev pub stop_in : LinePolicy → List Line → Option (ℕ × DocFault)
stop_in p ls = stop_on p.numbers p.on_fault ls

-- how many faulty lines are answered
abbrev pub passed_in : LinePolicy → List Line → ℕ
passed_in p ls = faulty_lines p.numbers (answered_lines p ls)
