-- A working file, which nobody has to believe: how a run ended, for private clauses alone.
use Rattle.std.specs.Prelude.{◌≡◌, ℕ, ◌⊎◌, true, List, Option, Some}
use Rattle.clap.specs.Walk.{Text}
use Rattle.jp_answer.specs.declared.on_fault.OnFault.TheVariants.{Stop, KeepGoing}
use Rattle.jp_run.specs.declared.fault.RunFault.{RunFault}
use Rattle.jp_run.specs.declared.fault.RunFault.TheVariants.{Query, Filter, Document, Read, Write, Limit}
use Rattle.jp_run.specs.declared.fault.RunFault.TheVariants.{Memory, Settings}
use Rattle.jp_program.specs.Inputs.{Course, EndsAt, EndsIn, Held, Input}
use Rattle.jp_program.specs.Outcome.{AreAllReads, AreFailed, AreTooManyLines, HasGoneOn, IsAnswered}
use Rattle.jp_program.specs.Outcome.{IsCutShort, IsFront, IsRefusedWish, IsWholeOrCut, Left}
use Rattle.jp_program.specs.Wanted.{Wanted, WantsRun}

-- the run over an input ended so
abbrev pub RunEnded : Wanted → Left → RunFault → Input → Option (List ℕ) → Option (List ℕ) → Type 0
RunEnded w e (Document line fault) input old new = IsAnswered w (Some (line, fault)) input old new
RunEnded w e Read input old new = IsFront w input old new
    × IsCutShort w e.source_failed input e.rest old new
RunEnded w e Write input old new = IsFront w input old new × (e.sink_failed ≡ true)
RunEnded w e Limit input old new = IsFront w input old new
    × (AreAllReads e.reads e.reads_new ⊎ AreTooManyLines w input.1 e.rest)
RunEnded w e Memory input old new = IsFront w input old new
RunEnded w e (Query fault) input old new = IsRefusedWish w (Query fault)
RunEnded w e (Filter fault) input old new = IsRefusedWish w (Filter fault)
RunEnded w e Settings input old new = ⊥

-- the run over files ended so at one of them, which is none that the answer goes on past, or behind them all
abbrev pub FilesEnded : Wanted → Left → List Input → Course → RunFault → Type 0
FilesEnded w e inputs c fault = ((w.on_fault ≡ KeepGoing → fault ≡ Read → ⊥)
    × EndsAt (IsWholeOrCut w) (RunEnded w e fault) inputs c)
    ⊎ ((fault ≡ Read) × HasGoneOn w e.source_failed inputs c)

-- a run was wanted, and it ended so
abbrev pub EndsSo : List Text → (Wanted → Type 0) → Type 0
EndsSo words Ended = (w : Wanted) × WantsRun words w × Ended w

-- all ended so, or in want of memory before anything was done; another clause speaks of what is refused
abbrev pub HasEnded : List Text → (Text → Held) → Held → Course → Left → Type 0 → RunFault → Type 0
HasEnded words holds first c e Undone (Document line fault) = (w : Wanted) × WantsRun words w
    × (w.on_fault ≡ Stop)
    × EndsIn (IsWholeOrCut w) (IsAnswered w (Some (line, fault))) w.files holds first c
HasEnded words holds first c e Undone Read = EndsSo words (λ w. AreFailed w e holds first c)
HasEnded words holds first c e Undone Write = EndsSo words (λ w. AreFailed w e holds first c)
HasEnded words holds first c e Undone Limit = EndsSo words (λ w. AreFailed w e holds first c)
HasEnded words holds first c e Undone Memory = Undone
    ⊎ EndsSo words (λ w. EndsIn (IsWholeOrCut w) (IsFront w) w.files holds first c)
HasEnded words holds first c e Undone (Query fault) = Unit {0}
HasEnded words holds first c e Undone (Filter fault) = Unit {0}
HasEnded words holds first c e Undone Settings = Unit {0}
