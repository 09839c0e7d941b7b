use Rattle.std.proofs.Common.{◌≡◌, ◌≤◌, ◌∙◌, List, ℕ, length, Option, Some, None, Err, IfSome, refl}
use Rattle.std.specs.Prelude.{IsTrue, IsUtf8}
use Rattle.serde_json.specs.Data.{Data}
use Rattle.serde_json.specs.Read.{read}
use Rattle.serde_json.specs.Written.{has_float}
use Rattle.jp_doc.specs.Reading.{max_line, reading}
use Rattle.jp_doc.specs.declared.fault.DocFault.TheVariants.{NotWhole}
use Rattle.jp_doc.proofs.ReadLaws.{reading_read}
use Rattle.jp_explain.proofs.line_explanation.explain_not_whole.Goals as goal

-- the fault of a line that is read to a value with such a number
not_whole : (line : List ℕ) (d : Data) → IsUtf8 line × (read line ≡ Some d) → IsTrue (has_float d)
    → length line ≤ max_line → reading line ≡ Err NotWhole
not_whole line d is_read has short = reading_read line d short is_read ∙ rw has refl

whatever : {X : Type 0} (o : Option X) (P : Type 0) → P → IfSome o (λ _. P)
whatever (Some x) P h = h
whatever None P h = tt

pub returns-in-Some-2-clause-fault : goal.returns-in-Some-2-clause-fault
returns-in-Some-2-clause-fault c =
    whatever c.marked_number.result _
    (not_whole _ _ (rw c.in-Some.is at c.in_ok-root.ensures) (rw c.in-Some-2.is at c.in_ok-path.ensures))
