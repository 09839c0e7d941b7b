-- What a run by some settings has done of texts that are accepted, however it ended.
use Rattle.std.specs.Prelude.{◌≡◌, ℕ, ◌+◌, ◌<◌, ◌≤◌, ◌⊎◌, List, length, false, true, Some, None, Result}
use Rattle.std.specs.Prelude.{IfOk, OnOk, OnErr, IfSome, IsErrOf}
use Rattle.std.specs.Io.KnownBytes.{Appends, Consumes, IsAtEnd}
use Rattle.jp_doc.specs.declared.fault.DocFault.{DocFault}
use Rattle.jp_answer.specs.Answer.{Answer}
use Rattle.jp_answer.specs.declared.on_fault.OnFault.TheVariants.{Stop, KeepGoing}
use Rattle.jp_run.specs.Answered.{IsAnswerBy, manner_of, numbering_of, passed_in}
use Rattle.jp_run.specs.AskedTexts.{AskedTexts}
use Rattle.jp_run.specs.Begun.{AllSince}
use Rattle.jp_run.specs.Counts.{counted}
use Rattle.jp_run.specs.Cutting.{documents, documents_in, last_number, part_count}
use Rattle.jp_run.specs.Handed.{IsHandedBy}
use Rattle.jp_run.specs.Limits.{max_lines, max_reads, window as window_bytes}
use Rattle.jp_run.specs.Prompt.{IsNear, IsPrompt}
use Rattle.jp_run.specs.Status.{status_of}
use Rattle.jp_run.specs.Written.{AppendsFront, IsPassedOn}
use Rattle.jp_run.specs.declared.ends.Sink as sink
use Rattle.jp_run.specs.declared.ends.Supply as supply
use Rattle.jp_run.specs.declared.fault.RunFault.{RunFault}
use Rattle.jp_run.specs.declared.fault.RunFault.TheVariants.{Document, Read, Write, Limit}
use Rattle.jp_run.specs.declared.fault.RunFault.TheVariants as fault
use Rattle.jp_run.specs.declared.running.Totals.{Totals}
use Rattle.jp_run.specs.declared.settings.Settings.{Settings}

-- Each is a clause of `run`, under its name there, over a source that went from `a` to `b` and a sink that
-- went from `u` to `w`.
pub record IsRunOf {S K : Type 0} (asked : AskedTexts) (settings : Settings) (source : supply.Ghosts S)
    (k : sink.Ghosts K) (a b : S) (u w : K) (result : Result Totals RunFault) : Type 0 where
  pub answer : OnOk result (IfSome (source.remaining a) (λ input. (x : Answer)
      × IsAnswerBy (manner_of settings) asked input x × (x.stopped ≡ None)
      × Appends (k.contents u) (k.contents w) x.bytes))
  pub counts : IfOk result (λ totals. IfSome (source.remaining a)
      (λ input. (totals.lines ≡ part_count settings.cutting input)
      × (totals.documents ≡ length (documents (numbering_of settings) input))))
  pub faulty : IfOk result (λ totals. IfSome (source.remaining a)
      (λ input. totals.faulty ≡ passed_in settings (documents (numbering_of settings) input)))
  pub none_passed : settings.on_fault ≡ Stop → IfOk result (λ totals. totals.faulty ≡ 0)
  pub wrote : IfOk result (λ totals. IfSome (source.remaining a) (λ input. (x : Answer)
      × IsAnswerBy (manner_of settings) asked input x × (totals.wrote ≡ counted 0 (length x.bytes))))
  pub few_lines : IfOk result (λ totals. totals.lines ≤ max_lines)
  pub end : OnOk result (IsAtEnd (source.remaining b))
  pub flushed : OnOk result (k.flushed w ≡ true)
  pub still_working : OnOk result ((source.failed b ≡ false) × (k.failed w ≡ false))
  pub passed_on : k.flushed u ≡ true → IsPassedOn (k.flushed w) (k.failed w)
  pub document : (line : ℕ) (f : DocFault) → IsErrOf result (Document line f)
      → IfSome (source.remaining a) (λ input. (x : Answer)
      × IsAnswerBy (manner_of settings) asked input x × (x.stopped ≡ Some (line, f))
      × Appends (k.contents u) (k.contents w) x.bytes)
  pub goes_on : settings.on_fault ≡ KeepGoing → (line : ℕ) (f : DocFault)
      → IsErrOf result (Document line f) → ⊥
  pub prompt : AllSince (source.begun a) (source.begun b) (IsPrompt (manner_of settings) asked
      (source.remaining a) (k.contents u))
  pub window : AllSince (source.begun a) (source.begun b) (IsNear window_bytes (manner_of settings) asked
      (source.remaining a) (k.contents u))
  pub read : IsErrOf result Read → (source.failed b ≡ true) × (bytes : List ℕ)
      × Consumes (source.remaining a) (source.remaining b) bytes
      × IsHandedBy (manner_of settings) asked (documents_in (numbering_of settings) bytes) None
      (k.contents u) (k.contents w)
  pub write : IsErrOf result Write → k.failed w ≡ true
  pub limit : IsErrOf result Limit → (source.reads b ≡ source.reads a + max_reads)
      ⊎ ((input : List ℕ) × Consumes (source.remaining a) (source.remaining b) input
      × (max_lines < last_number (numbering_of settings) input))
  -- and no text is told to be refused
  pub taken : (f : RunFault) → IsErrOf result f → status_of f ≡ 2 → ⊥
  pub settings_fine : IsErrOf result fault.Settings → ⊥
  pub front : OnErr result (IfSome (source.remaining a) (λ input. (x : Answer)
      → IsAnswerBy (manner_of settings) asked input x
      → AppendsFront (k.contents u) (k.contents w) x.bytes))
  pub few : source.reads b ≤ source.reads a + max_reads
