-- Fault lines, which stand for faulty lines in an answer that keeps going.
use Rattle.std.specs.Prelude.{ℕ, List, [], ◌∷◌, ◌++◌, decimal}
use Rattle.jp_doc.specs.FaultWords.{fault_words}
use Rattle.jp_doc.specs.declared.fault.DocFault.{DocFault}

-- the line's number, a tab, `!`, a tab, what is wrong with the line, and a line feed
abbrev pub fault_line : ℕ → DocFault → List ℕ
fault_line number fault = decimal number ++ (9 ∷ 33 ∷ 9 ∷ fault_words fault ++ 10 ∷ [])
