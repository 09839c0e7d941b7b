-- What a status tells of both ends, where a run of a query was wanted.
use Rattle.std.specs.Prelude.{◌≡◌, ℕ, suc, ◌+◌, ◌<◌, ◌⊎◌, Bool, true, false, if◌then◌else◌, List, [], ◌∷◌}
use Rattle.std.specs.Prelude.{◌++◌, length, Option, None, Some, IfSome, IsSomeAnd, map, codes, decimal}
use Rattle.std.specs.List.{All}
use Rattle.std.specs.Io.KnownBytes.{Appends, Consumes, Keeps}
use Rattle.clap.specs.Walk.{Text}
use Rattle.jp_doc.specs.Lines.{Line}
use Rattle.jp_doc.specs.declared.fault.DocFault.{DocFault}
use Rattle.jp_pattern.specs.Tests.{Tests, AreRight}
use Rattle.jp_answer.specs.Answer.{Answer, answer_by}
use Rattle.jp_answer.specs.FilteredQuery.{FilteredQuery}
use Rattle.jp_answer.specs.Policy.{policy}
use Rattle.jp_answer.specs.declared.on_fault.OnFault.{OnFault}
use Rattle.jp_answer.specs.declared.on_fault.OnFault.TheVariants.{Stop, KeepGoing}
use Rattle.jp_output.specs.Layouts.{laid_out}
use Rattle.jp_output.specs.OutputForm.{OutputForm, row_lines}
use Rattle.jp_run.specs.Answered.{IsAnswerBy}
use Rattle.jp_run.specs.AskedTexts.{AskedTexts, AreAcceptedIn, AreRefusedIn}
use Rattle.jp_run.specs.Begun.{Begun, AllSince}
use Rattle.jp_run.specs.Cutting.{Numbering, documents, documents_in, last_number}
use Rattle.jp_run.specs.Counts.{counted}
use Rattle.jp_run.specs.Forms.{form_of}
use Rattle.jp_run.specs.Handed.{IsHandedBy}
use Rattle.jp_run.specs.Limits.{max_reads, max_lines, window}
use Rattle.jp_run.specs.Manner.{Manner, manner}
use Rattle.jp_run.specs.Prompt.{IsPrompt, IsNear}
use Rattle.jp_run.specs.Written.{AppendsFront}
use Rattle.jp_run.specs.declared.fault.RunFault.{RunFault}
use Rattle.jp_program.specs.Inputs.{Course, EachInTurn, EndsIn, Held, Input, Standing, counted_if}
use Rattle.jp_program.specs.Inputs.{counted_times, named}
use Rattle.jp_program.specs.Wanted.{Wanted}

-- the statuses that there are
abbrev pub IsStatus : ℕ → Type 0
IsStatus n = (n ≡ 0) ⊎ (n ≡ 1) ⊎ (n ≡ 2) ⊎ (n ≡ 3) ⊎ (n ≡ 4) ⊎ (n ≡ 5) ⊎ (n ≡ 64)

-- the texts of what is wanted: the query, and the filter, if there is one
abbrev pub asked_in : Wanted → AskedTexts
asked_in w = record { query = w.query; filter = w.filter }

-- they are accepted, by the wanted numbers
abbrev pub IsTaken : Wanted → Type 0
IsTaken w = (q : FilteredQuery) × AreAcceptedIn w.numbers (asked_in w) q

-- they are refused with this fault, by the wanted numbers
abbrev pub IsRefusedWish : Wanted → RunFault → Type 0
IsRefusedWish w fault = AreRefusedIn w.numbers (asked_in w) fault

-- what each line of an input stands behind: its name and a tab, where lines are to name theirs
abbrev pub head_of : Wanted → Text → List ℕ
head_of w name = if w.names then name ++ 9 ∷ [] else []

-- the wanted form of the answer to an input of this name, with the wanted ending and the wanted fields; where
-- nodes are counted a line feed for each, which is a row of no fields
abbrev pub form_for : Wanted → Text → OutputForm
form_for w name = if w.counts then row_lines []
    else form_of w.output (laid_out (head_of w name) w.ending w.fields)

-- how each input is cut, and its lines, or documents, are numbered
abbrev pub numbering_in : Wanted → Numbering
numbering_in w = record { cutting = w.cutting; before = w.before }

-- the wanted manner of the same, which ends at a faulty line or keeps going
abbrev pub manner_for : Wanted → Text → OnFault → Manner
manner_for w name on_fault = manner (numbering_in w) (form_for w name) (policy w.numbers on_fault)

-- a number in decimal and a line feed, behind what lines stand behind
abbrev pub count_line : List ℕ → ℕ → List ℕ
count_line head n = head ++ (decimal n ++ 10 ∷ [])

-- of an answer that has not stopped how many nodes there are, and nothing of another
abbrev pub count_of : List ℕ → Option (ℕ × DocFault) → List ℕ → List ℕ
count_of head None feeds = count_line head (counted 0 (length feeds))
count_of head (Some stop) feeds = []

-- what is written of an answer to an input of this name: its bytes, or the count of its nodes
abbrev pub told : Wanted → Text → Answer → List ℕ
told w name a = if w.counts then count_of (head_of w name) a.stopped a.bytes else a.bytes

-- what was written is the wanted query's answer, in the wanted form and by the wanted numbers, to the whole
-- input, which stopped there
abbrev pub IsAnswered : Wanted → Option (ℕ × DocFault) → Input → Option (List ℕ) → Option (List ℕ) → Type 0
IsAnswered w stopped input old new = IfSome input.1 (λ bytes. (a : Answer)
    × IsAnswerBy (manner_for w input.0 Stop) (asked_in w) bytes a × (a.stopped ≡ stopped)
    × Appends old new (told w input.0 a))

-- what was written is the wanted query's answer that keeps going, in the wanted form and by the wanted
-- numbers, to the whole input, and its faulty lines are counted on
abbrev pub Passes : Wanted → Input → Option (List ℕ) × ℕ → Option (List ℕ) × ℕ → Type 0
Passes w input old new = IfSome input.1 (λ bytes. (q : FilteredQuery)
    × AreAcceptedIn w.numbers (asked_in w) q × (x : Answer)
    × ((t : Tests) → AreRight t → answer_by (form_for w input.0) (policy w.numbers KeepGoing) t q
    (documents (numbering_in w) bytes) ≡ x) × (new.1 ≡ counted old.1 x.faulty)
    × Appends old.0 new.0 (told w input.0 x))

-- so it is of each input in turn, and faulty lines were passed
abbrev pub ArePassed : Wanted → List Input → Option (List ℕ) → Option (List ℕ) → Type 0
ArePassed w inputs old new = (faulty : ℕ) × (0 < faulty) × EachInTurn (Passes w) inputs (old, 0) (new, faulty)

-- what was written is the wanted query's answer to the whole input, which keeps going as it is wanted, and
-- has not stopped
abbrev pub IsWhole : Wanted → Input → Option (List ℕ) → Option (List ℕ) → Type 0
IsWhole w input old new = IfSome input.1 (λ bytes. (a : Answer)
    × IsAnswerBy (manner_for w input.0 w.on_fault) (asked_in w) bytes a × (a.stopped ≡ None)
    × Appends old new (told w input.0 a))

-- the wanted answer to these bytes of an input of this name is empty: nothing is selected in them
abbrev pub HasEmptyAnswer : Wanted → Text → List ℕ → Type 0
HasEmptyAnswer w name bytes = (a : Answer)
    × IsAnswerBy (manner_for w name w.on_fault) (asked_in w) bytes a × (a.bytes ≡ [])

-- nothing is selected in an input, as far as its bytes are known
abbrev pub IsEmptyAnswer : Wanted → Input → Type 0
IsEmptyAnswer w input = IfSome input.1 (HasEmptyAnswer w input.0)

-- the bytes of an input are known, and nothing is selected in them
abbrev pub IsKnownEmptyAnswer : Wanted → Input → Type 0
IsKnownEmptyAnswer w input = IsSomeAnd input.1 (HasEmptyAnswer w input.0)

-- so it is of each input
abbrev pub AreEmptyAnswers : Wanted → List Input → Type 0
AreEmptyAnswers w inputs = All (IsEmptyAnswer w) inputs

abbrev pub AreKnownEmptyAnswers : Wanted → List Input → Type 0
AreKnownEmptyAnswers w inputs = All (IsKnownEmptyAnswer w) inputs

-- what was written is a front of the wanted query's answer, in the wanted form, to the whole input
abbrev pub IsFront : Wanted → Input → Option (List ℕ) → Option (List ℕ) → Type 0
IsFront w input old new = IfSome input.1 (λ bytes. (a : Answer)
    → IsAnswerBy (manner_for w input.0 w.on_fault) (asked_in w) bytes a
    → AppendsFront old new (told w input.0 a))

-- what was written is the answer to these lines; or nothing, where nodes are counted
abbrev pub IsHanded : Bool → Manner → AskedTexts → List Line → Option (List ℕ) → Option (List ℕ) → Type 0
IsHanded true going asked ls old new = Keeps old new
IsHanded false going asked ls old new = IsHandedBy going asked ls None old new

-- the source has failed, and what was written is the answer to all documents whose line's end was read
abbrev pub IsCutShort : Wanted → Bool → Input → Option (List ℕ) → Option (List ℕ) → Option (List ℕ) → Type 0
IsCutShort w failed input rest old new = (failed ≡ true) × (bytes : List ℕ) × Consumes input.1 rest bytes
    × IsHanded w.counts (manner_for w input.0 w.on_fault) (asked_in w) (documents_in (numbering_in w) bytes)
    old new

-- the input was cut short by a failure of its own: what was written is the answer to all documents whose
-- line's end was read
abbrev pub IsCut : Wanted → Input → Option (List ℕ) → Option (List ℕ) → Type 0
IsCut w input old new = (rest : Held) × IsCutShort w true input rest old new

-- the input was answered, or the answer keeps going, the input was cut short, and that is one failure more
abbrev pub IsWholeOrCut : Wanted → Input → Standing → Standing → Type 0
IsWholeOrCut w input old new = (IsWhole w input old.0 new.0 × (new.1 ≡ old.1))
    ⊎ ((w.on_fault ≡ KeepGoing) × IsCut w input old.0 new.0 × (new.1 ≡ suc old.1))

-- the most calls of `read` were made
abbrev pub AreAllReads : ℕ → ℕ → Type 0
AreAllReads old new = new ≡ old + max_reads

-- more lines, or documents, were read than may be numbered
abbrev pub AreTooManyLines : Wanted → Option (List ℕ) → Option (List ℕ) → Type 0
AreTooManyLines w old new = (input : List ℕ) × Consumes old new input
    × (max_lines < last_number (numbering_in w) input)

-- what a run has left: what is still to come of its last input, how many reads of that there were before and
-- are now, and whether an end has failed
pub record Left : Type 0 where
  pub rest : Option (List ℕ)
  pub reads : ℕ
  pub reads_new : ℕ
  pub source_failed : Bool
  pub sink_failed : Bool

-- of a file there were no reads before it was opened
abbrev pub reads_before : List Text → ℕ → ℕ
reads_before [] reads = reads
reads_before (name ∷ names) reads = 0

-- what was written is a front of the answer, and the source has failed, or the sink has, or a limit was
-- passed
abbrev pub HasFailed : Wanted → Left → Input → Option (List ℕ) → Option (List ℕ) → Type 0
HasFailed w e input old new = IsFront w input old new
    × (IsCutShort w e.source_failed input e.rest old new ⊎ (e.sink_failed ≡ true)
    ⊎ AreAllReads e.reads e.reads_new ⊎ AreTooManyLines w input.1 e.rest)

-- whether a source that has failed ends the run: a file does not where the answer keeps going
abbrev pub ends_run : List Text → OnFault → Bool → Bool
ends_run [] on_fault failed = failed
ends_run (name ∷ names) Stop failed = failed
ends_run (name ∷ names) KeepGoing failed = false

-- the same of what is left, of an input that may be a file
abbrev pub left_of : Wanted → Left → Left
left_of w e = record {
  rest = e.rest;
  reads = reads_before w.files e.reads;
  reads_new = e.reads_new;
  source_failed = ends_run w.files w.on_fault e.source_failed;
  sink_failed = e.sink_failed;
}

-- each of these files was opened once, and answered or cut short, and at least one was cut short, so that the
-- answer keeps going; just as many have failed
abbrev pub HasGoneOn : Wanted → Bool → List Input → Course → Type 0
HasGoneOn w last_failed inputs c = (failed : ℕ) × (0 < failed)
    × EachInTurn (IsWholeOrCut w) inputs (c.contents, 0) (c.contents_new, failed)
    × (counted_if last_failed c.broken_new ≡ counted_times failed c.broken)
    × (c.opens_new ≡ counted c.opens (length inputs))

-- the run has failed at some input, behind which none was opened, or it has gone on past each file that
-- failed
abbrev pub AreFailed : Wanted → Left → (Text → Held) → Held → Course → Type 0
AreFailed w e holds first c = EndsIn (IsWholeOrCut w) (HasFailed w (left_of w e)) w.files holds first c
    ⊎ HasGoneOn w e.source_failed (map (named holds) w.files) c

-- each named file was opened once, and none had failed when the next was opened
abbrev pub AreOpened : Wanted → ℕ → ℕ → ℕ → ℕ → Type 0
AreOpened w opens opens_new broken broken_new = (opens_new ≡ counted opens (length w.files))
    × (broken_new ≡ broken)

-- unless nodes are counted: each read of standard input that may wait has begun when the wanted answer to all
-- lines whose end had come was written and passed on
abbrev pub ArePrompt : Wanted → Option (List Begun) → Option (List Begun) → Option (List ℕ)
    → Option (List ℕ) → Type 0
ArePrompt w before after input old = w.counts ≡ false → AllSince before after
    (IsPrompt (manner_for w (codes "-") w.on_fault) (asked_in w) input old)

-- unless they are: each read of it has begun when the wanted answer to all but the last 4 MB that had come
-- was written
abbrev pub AreNear : Wanted → Option (List Begun) → Option (List Begun) → Option (List ℕ)
    → Option (List ℕ) → Type 0
AreNear w before after input old = w.counts ≡ false → AllSince before after
    (IsNear window (manner_for w (codes "-") w.on_fault) (asked_in w) input old)
