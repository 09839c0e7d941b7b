-- A working file, which nobody has to believe: what stands after each fault of a run's parts, for private
-- clauses alone.
use Rattle.std.specs.Prelude.{◌≡◌, ℕ, ◌+◌, ◌<◌, ◌⊎◌, Bool, true, List, Option, Some, None, IfSome}
use Rattle.std.specs.Io.KnownBytes.{Appends, Consumes}
use Rattle.jp_doc.specs.Lines.{Line}
use Rattle.jp_doc.specs.Feeding.{Progress}
use Rattle.jp_answer.specs.FilteredQuery.{FilteredQuery}
use Rattle.jp_answer.specs.Answer.{Answer}
use Rattle.jp_answer.specs.declared.on_fault.OnFault.TheVariants.{Stop}
use Rattle.jp_run.specs.Manner.{Manner}
use Rattle.jp_run.specs.declared.cutting.Cutting.{Cutting}
use Rattle.jp_run.specs.declared.fault.RunFault.{RunFault}
use Rattle.jp_run.specs.declared.fault.RunFault.TheVariants.{Query, Filter, Document, Read, Write, Limit}
use Rattle.jp_run.specs.declared.fault.RunFault.TheVariants.{Memory, Settings}
use Rattle.jp_run.specs.Cutting.{documents, documents_in, last_number, fed}
use Rattle.jp_run.specs.Handed.{Handed, HandedFront}
use Rattle.jp_run.specs.Limits.{max_reads, max_lines}
use Rattle.jp_run.specs.Written.{AppendsFront}

-- a read behind lines that had come so far, which did not fail
abbrev pub ReadEnded : Cutting → Progress → Option (List ℕ) → Option (List ℕ) → RunFault → Type 0
ReadEnded cutting before old new Limit = (piece : List ℕ) × Consumes old new piece
    × (max_lines < (fed cutting before piece).count)
ReadEnded cutting before old new Memory = Unit {0}
ReadEnded cutting before old new Read = ⊥
ReadEnded cutting before old new (Query fault) = ⊥
ReadEnded cutting before old new (Filter fault) = ⊥
ReadEnded cutting before old new (Document line fault) = ⊥
ReadEnded cutting before old new Write = ⊥
ReadEnded cutting before old new Settings = ⊥

-- the last line, where there were so many in all
abbrev pub LastEnded : ℕ → RunFault → Type 0
LastEnded count Limit = max_lines < count
LastEnded count Memory = Unit {0}
LastEnded count Read = ⊥
LastEnded count (Query fault) = ⊥
LastEnded count (Filter fault) = ⊥
LastEnded count (Document line fault) = ⊥
LastEnded count Write = ⊥
LastEnded count Settings = ⊥

-- an answer that was handed to a sink
abbrev pub HandingEnded : Answer → Bool → Option (List ℕ) → Option (List ℕ) → RunFault → Type 0
HandingEnded a failed old new (Document line fault) = (a.stopped ≡ Some (line, fault))
    × Appends old new a.bytes
HandingEnded a failed old new Write = (failed ≡ true) × AppendsFront old new a.bytes
HandingEnded a failed old new (Query fault) = ⊥
HandingEnded a failed old new (Filter fault) = ⊥
HandingEnded a failed old new Read = ⊥
HandingEnded a failed old new Limit = ⊥
HandingEnded a failed old new Memory = ⊥
HandingEnded a failed old new Settings = ⊥

-- the answer to lines in a form, handed to a sink
abbrev pub AnswerEnded : Manner → FilteredQuery → List Line → Bool → Option (List ℕ) → Option (List ℕ)
    → RunFault
    → Type 0
AnswerEnded going q ls failed old new (Document line fault) = Handed going q ls (Some (line, fault)) old new
AnswerEnded going q ls failed old new Write = (failed ≡ true) × HandedFront going q ls old new
AnswerEnded going q ls failed old new Memory = HandedFront going q ls old new
AnswerEnded going q ls failed old new (Query fault) = ⊥
AnswerEnded going q ls failed old new (Filter fault) = ⊥
AnswerEnded going q ls failed old new Read = ⊥
AnswerEnded going q ls failed old new Limit = ⊥
AnswerEnded going q ls failed old new Settings = ⊥

-- the same, where there were so many lines in all
abbrev pub RestEnded : Manner → FilteredQuery → List Line → ℕ → Bool → Option (List ℕ) → Option (List ℕ)
    → RunFault → Type 0
RestEnded going q ls count failed old new Limit = (max_lines < count) × HandedFront going q ls old new
RestEnded going q ls count failed old new fault = AnswerEnded going q ls failed old new fault

-- the same, where a read had failed
abbrev pub FailureEnded : Manner → FilteredQuery → List Line → Bool → Option (List ℕ) → Option (List ℕ)
    → RunFault → Type 0
FailureEnded going q ls failed old new Read = Handed going q ls None old new
FailureEnded going q ls failed old new fault = AnswerEnded going q ls failed old new fault

-- where a source and a sink stood before a run and after it
pub record Ends : Type 0 where
  pub source_old : Option (List ℕ)
  pub source_new : Option (List ℕ)
  pub reads_old : ℕ
  pub reads_new : ℕ
  pub source_failed : Bool
  pub sink_old : Option (List ℕ)
  pub sink_new : Option (List ℕ)
  pub sink_failed : Bool

-- a front of the answer to the whole input was appended
abbrev pub InputFront : Manner → FilteredQuery → Ends → Type 0
InputFront going q e = IfSome e.source_old (λ input. HandedFront going q (documents going.numbering input)
    e.sink_old e.sink_new)

-- a run
abbrev pub StreamEnded : Manner → FilteredQuery → Ends → RunFault → Type 0
StreamEnded going q e (Document line fault) =
    IfSome e.source_old (λ input. Handed going q (documents going.numbering input) (Some (line, fault))
    e.sink_old e.sink_new)
    × (going.policy.on_fault ≡ Stop)
StreamEnded going q e Read = (e.source_failed ≡ true) × (bytes : List ℕ)
    × Consumes e.source_old e.source_new bytes
    × Handed going q (documents_in going.numbering bytes) None e.sink_old e.sink_new
StreamEnded going q e Write = (e.sink_failed ≡ true) × InputFront going q e
StreamEnded going q e Limit = ((e.reads_new ≡ e.reads_old + max_reads) ⊎ ((bytes : List ℕ)
    × Consumes e.source_old e.source_new bytes × (max_lines < last_number going.numbering bytes)))
    × InputFront going q e
StreamEnded going q e Memory = InputFront going q e
StreamEnded going q e (Query fault) = ⊥
StreamEnded going q e (Filter fault) = ⊥
StreamEnded going q e Settings = ⊥
