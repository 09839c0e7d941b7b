-- When lines are answered: before a read that may wait, and never far behind what has come.
use Rattle.std.specs.Prelude.{◌≡◌, ◌<◌, ◌++◌, ℕ, List, length, false, true, Option, None}
use Rattle.std.specs.Io.KnownBytes.{Consumes}
use Rattle.jp_run.specs.AskedTexts.{AskedTexts}
use Rattle.jp_run.specs.Manner.{Manner}
use Rattle.jp_run.specs.Begun.{Begun}
use Rattle.jp_run.specs.Cutting.{documents_in}
use Rattle.jp_run.specs.Handed.{IsHandedBy}

-- A read that may wait begins when the answer to all lines whose end has come stands in the sink, and was
-- passed on. None of these lines is one at which the answer stops.
abbrev pub IsPrompt : Manner → AskedTexts → Option (List ℕ) → Option (List ℕ) → Begun → Type 0
IsPrompt going asked input sink begun = begun.ready ≡ false → (come : List ℕ)
    × Consumes input begun.remaining come
    × IsHandedBy going asked (documents_in going.numbering come) None sink begun.contents
    × (begun.flushed ≡ true)

-- A read, whether it may wait or not, begins when all but fewer than so many bytes of those that have come
-- are answered.
abbrev pub IsNear : ℕ → Manner → AskedTexts → Option (List ℕ) → Option (List ℕ) → Begun → Type 0
IsNear most going asked input sink begun = (front : List ℕ) × (more : List ℕ)
    × Consumes input begun.remaining (front ++ more) × (length more < most)
    × IsHandedBy going asked (documents_in going.numbering front) None sink begun.contents
