-- A working file, which nobody has to believe: what was done with one input, for private clauses alone.
use Rattle.std.specs.Prelude.{◌≡◌, ℕ, ◌<◌, Bool, true, false, None, Result, IfOk, IfErr, OnOk, IsErrOf}
use Rattle.std.specs.Io.KnownBytes.{IsAtEnd}
use Rattle.jp_doc.specs.declared.fault.DocFault.{DocFault}
use Rattle.jp_answer.specs.declared.on_fault.OnFault.TheVariants.{Stop, KeepGoing}
use Rattle.jp_run.specs.Answered.{manner_of}
use Rattle.jp_run.specs.Counts.{counted}
use Rattle.jp_run.specs.Ran.{IsRunOf}
use Rattle.jp_run.specs.Status.{status_of}
use Rattle.jp_run.specs.declared.ends.Sink as sink
use Rattle.jp_run.specs.declared.ends.Supply as supply
use Rattle.jp_run.specs.declared.fault.RunFault.{RunFault}
use Rattle.jp_run.specs.declared.fault.RunFault.TheVariants.{Document, Settings as WrongSettings}
use Rattle.jp_run.specs.declared.running.Totals.{Totals}
use Rattle.jp_run.specs.declared.settings.Settings.{Settings}
use Rattle.clap.specs.Walk.{Text}
use Rattle.jp_program.specs.inner.Ended.{RunEnded}
use Rattle.jp_program.specs.Inputs.{Input, Sunk}
use Rattle.jp_program.specs.Outcome.{IsAnswered, IsEmptyAnswer, IsKnownEmptyAnswer, IsTaken, IsWhole, Left}
use Rattle.jp_program.specs.Outcome.{Passes, asked_in, manner_for}
use Rattle.jp_program.specs.Wanted.{Wanted}

-- a run over an input of this name, by some settings that are as it is wanted: of the source, which went from
-- `a` to `b`, into some sink, which went from `u` to `v`
pub record IsRunFor {S K : Type 0} (w : Wanted) (name : Text) (source : supply.Ghosts S) (k : sink.Ghosts K)
    (a b : S) (u v : K) (result : Result Totals RunFault) : Type 0 where
  pub settings : Settings
  pub manner : manner_of settings ≡ manner_for w name w.on_fault
  pub on_fault : settings.on_fault ≡ w.on_fault
  pub ran : IsRunOf (asked_in w) settings source k a b u v result

-- what is wanted was done with an input, where the sink had `old` and has `new`, and it is flushed or not
pub record HasTurned (w : Wanted) (e : Left) (input : Input) (old new : Sunk) (is_flushed : Bool)
    (result : Result Totals RunFault) : Type 0 where
  pub taken : OnOk result (IsTaken w)
  pub whole : OnOk result (IsWhole w input old new)
  pub finished : IfOk result (λ totals. totals.faulty ≡ 0 → IsAnswered w None input old new)
  pub passes : w.on_fault ≡ KeepGoing
      → IfOk result (λ totals. (n : ℕ) → Passes w input (old, n) (new, counted n totals.faulty))
  pub none_passed : w.on_fault ≡ Stop → IfOk result (λ totals. totals.faulty ≡ 0)
  pub nothing : IfOk result (λ totals. totals.wrote ≡ 0 → IsEmptyAnswer w input)
  pub something : IfOk result (λ totals. 0 < totals.wrote → IsKnownEmptyAnswer w input → ⊥)
  pub end : OnOk result (IsAtEnd e.rest)
  pub flushed : OnOk result (is_flushed ≡ true)
  pub still_working : OnOk result ((e.source_failed ≡ false) × (e.sink_failed ≡ false))
  pub goes_on : w.on_fault ≡ KeepGoing → (line : ℕ) (fault : DocFault)
      → IsErrOf result (Document line fault) → ⊥
  pub query : (f : RunFault) → IsErrOf result f → status_of f ≡ 2 → ⊥
  pub settings : IsErrOf result WrongSettings → ⊥
  pub fault : IfErr result (λ f. RunEnded w e f input old new)
