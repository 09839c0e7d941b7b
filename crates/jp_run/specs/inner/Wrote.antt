-- A working file, which nobody has to believe: how many bytes an answer has, for private clauses alone.
use Rattle.std.specs.Prelude.{◌≡◌, ℕ, length, List}
use Rattle.jp_doc.specs.Lines.{Line}
use Rattle.jp_answer.specs.FilteredQuery.{FilteredQuery}
use Rattle.jp_pattern.specs.Tests.{Tests, AreRight}
use Rattle.jp_answer.specs.Answer.{answer_by}
use Rattle.jp_run.specs.Counts.{counted}
use Rattle.jp_run.specs.Manner.{Manner}

-- the answer to these lines has so many
abbrev pub HasBytes : Manner → FilteredQuery → List Line → ℕ → Type 0
HasBytes going q ls wrote = (t : Tests) → AreRight t
    → wrote ≡ counted 0 (length (answer_by going.form going.policy t q ls).bytes)

-- an answer has so many, and so many where it goes on with these lines
abbrev pub HasBytesMore : Manner → FilteredQuery → List Line → ℕ → ℕ → Type 0
HasBytesMore going q ls before after = (t : Tests) → AreRight t
    → after ≡ counted before (length (answer_by going.form going.policy t q ls).bytes)
