-- A working file, which nobody has to believe: where a run stands between its turns, for private clauses
-- alone.
use Rattle.std.specs.Prelude.{◌≡◌, ℕ, ◌+◌, ◌<◌, ◌≤◌, ◌⊎◌, ◌++◌, List, [], length, Option, None, false, true}
use Rattle.std.specs.Io.KnownBytes.{Consumes}
use Rattle.jp_answer.specs.FilteredQuery.{FilteredQuery}
use Rattle.jp_answer.specs.Policy.{passed_in}
use Rattle.jp_run.specs.Manner.{Manner}
use Rattle.jp_run.specs.Begun.{Begun}
use Rattle.jp_run.specs.Cutting.{documents_in, fed_lines, progress_in}
use Rattle.jp_run.specs.Handed.{Handed}
use Rattle.jp_run.specs.Limits.{max_lines}
use Rattle.jp_run.specs.inner.Wrote.{HasBytes, HasBytesMore}
use Rattle.jp_run.specs.declared.stream.Stream.{Stream}

-- there are no more lines than are counted
pub record IsCounted (s : Stream) : Type 0 where
  pub lines : s.answered.lines + length s.buffer.lines ≤ max_lines + 1
  pub faulty : s.answered.faulty ≤ s.answered.lines

-- the answer to all lines that waited is handed out
pub record HasAnswered (going : Manner) (q : FilteredQuery) (sink_old sink_new : Option (List ℕ))
    (before after : Stream) : Type 0 where
  pub handed : Handed going q before.buffer.lines None sink_old sink_new
  pub none : after.buffer.lines ≡ []
  pub come : after.come ≡ 0
  pub cutting : after.buffer.cutting ≡ before.buffer.cutting
  pub progress : after.buffer.progress ≡ before.buffer.progress
  pub lines : after.answered.lines ≡ before.answered.lines + length before.buffer.lines
  pub faulty : after.answered.faulty ≡ before.answered.faulty + passed_in going.policy before.buffer.lines
  pub wrote : HasBytesMore going q before.buffer.lines before.answered.wrote after.answered.wrote

-- so is it, or nothing was done
pub record IsLeft (sink_old sink_new : Option (List ℕ)) (before after : Stream) : Type 0 where
  pub stream : after ≡ before
  pub sink : sink_new ≡ sink_old

abbrev pub HasSettled : Manner → FilteredQuery → Option (List ℕ) → Option (List ℕ) → Stream → Stream → Type 0
HasSettled going q sink_old sink_new before after =
    IsLeft sink_old sink_new before after ⊎ HasAnswered going q sink_old sink_new before after

-- All lines whose end is in a front of the bytes that have come are answered; those that came behind wait.
pub record Stands (going : Manner) (q : FilteredQuery) (old now sink_old sink_now : Option (List ℕ))
    (s : Stream)
    : Type 0 where
  pub front : List ℕ
  pub more : List ℕ
  pub consumed : Consumes old now (front ++ more)
  pub cutting : s.buffer.cutting ≡ going.numbering.cutting
  pub progress : s.buffer.progress ≡ progress_in going.numbering (front ++ more)
  pub waiting : s.buffer.lines ≡ fed_lines going.numbering.cutting (progress_in going.numbering front) more
  pub come : s.come ≡ length more
  pub lines : s.answered.lines ≡ length (documents_in going.numbering front)
  pub faulty : s.answered.faulty ≡ passed_in going.policy (documents_in going.numbering front)
  pub wrote : HasBytes going q (documents_in going.numbering front) s.answered.wrote
  pub handed : Handed going q (documents_in going.numbering front) None sink_old sink_now

-- what is promised of each read, of the query that is walked
abbrev pub BeginsPrompt : Manner → FilteredQuery → Option (List ℕ) → Option (List ℕ) → Begun → Type 0
BeginsPrompt going q input sink begun = begun.ready ≡ false → (come : List ℕ)
    × Consumes input begun.remaining come
    × Handed going q (documents_in going.numbering come) None sink begun.contents × (begun.flushed ≡ true)

abbrev pub BeginsNear : ℕ → Manner → FilteredQuery → Option (List ℕ) → Option (List ℕ) → Begun → Type 0
BeginsNear most going q input sink begun = (front : List ℕ) × (more : List ℕ)
    × Consumes input begun.remaining (front ++ more) × (length more < most)
    × Handed going q (documents_in going.numbering front) None sink begun.contents
