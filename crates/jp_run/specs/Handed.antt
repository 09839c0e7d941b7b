-- The answer to lines, in some manner, handed to a sink.
use Rattle.std.specs.Prelude.{◌≡◌, ℕ, List, Option}
use Rattle.std.specs.Io.KnownBytes.{Appends}
use Rattle.jp_doc.specs.Lines.{Line}
use Rattle.jp_doc.specs.declared.fault.DocFault.{DocFault}
use Rattle.jp_pattern.specs.Tests.{Tests, AreRight}
use Rattle.jp_answer.specs.Answer.{Answer, answer_by}
use Rattle.jp_answer.specs.FilteredQuery.{FilteredQuery}
use Rattle.jp_run.specs.AskedTexts.{AskedTexts, AreAcceptedIn}
use Rattle.jp_run.specs.Manner.{Manner}
use Rattle.jp_run.specs.Written.{AppendsFront}

-- the answer to the lines stops so, and its bytes were appended
pub record Handed (going : Manner) (q : FilteredQuery) (ls : List Line) (stop : Option (ℕ × DocFault))
    (old new : Option (List ℕ)) : Type 0 where
  pub whole : Answer
  pub is : (t : Tests) → AreRight t → answer_by going.form going.policy t q ls ≡ whole
  pub stopped : whole.stopped ≡ stop
  pub appended : Appends old new whole.bytes

-- a front of the bytes of the answer to the lines was appended
abbrev pub HandedFront : Manner → FilteredQuery → List Line → Option (List ℕ) → Option (List ℕ) → Type 0
HandedFront going q ls old new = (t : Tests) → AreRight t
    → AppendsFront old new (answer_by going.form going.policy t q ls).bytes

-- what is asked is accepted, and the answer to the lines was handed out
abbrev pub IsHandedBy : Manner → AskedTexts → List Line → Option (ℕ × DocFault) → Option (List ℕ)
    → Option (List ℕ) → Type 0
IsHandedBy going asked ls stop old new = (q : FilteredQuery) × AreAcceptedIn going.policy.numbers asked q
    × Handed going q ls stop old new
