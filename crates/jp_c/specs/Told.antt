-- What C is told of an answer.
use Rattle.std.specs.Prelude.{◌≡◌, ℕ, ◌⊎◌, List, Option, Some, None, length}
use Rattle.jp_doc.specs.declared.fault.DocFault.{DocFault}
use Rattle.jp_answer.specs.Answer.{Answer}
use Rattle.jp_c.specs.Asked.{IsAnswerAsked, IsRefusedSo}
use Rattle.jp_c.specs.Buffers.{IsFilledBy}
use Rattle.jp_c.specs.Codes.{code_of, line_code}
use Rattle.jp_c.specs.declared.options.Options.{Options}
use Rattle.jp_c.specs.declared.refused.Refused.{Refused}
use Rattle.jp_c.specs.declared.report.Report.{Report}

-- the status, the line and its fault, where the answer ends there
abbrev pub IsStopTold : Option (ℕ × DocFault) → ℕ → ℕ → ℕ → Type 0
IsStopTold None status line fault = (status ≡ 0) × (line ≡ 0) × (fault ≡ 0)
IsStopTold (Some s) status line fault = (status ≡ 32) × (line ≡ s.0) × (fault ≡ line_code s.1)

-- the answer is told: its front stands in the buffer, as much as there is room for, and behind it the buffer
-- is as it was
pub record IsTold (a : Answer) (old new : List ℕ) (r : Report) (status : ℕ) : Type 0 where
  pub bytes : IsFilledBy a.bytes old new
  pub needed : r.needed ≡ length a.bytes
  pub faulty : r.faulty ≡ a.faulty
  pub stopped : IsStopTold a.stopped status r.line r.fault

-- nothing is
pub record IsUntold (old new : List ℕ) (r : Report) : Type 0 where
  pub bytes : new ≡ old
  pub report : r ≡ record { needed = 0; faulty = 0; line = 0; fault = 0 }

-- The answer that is asked for is told; or why there is none, by the status alone.
abbrev pub HasTold : Options → List ℕ → List ℕ → List ℕ → List ℕ → List ℕ → Report → ℕ → Type 0
HasTold o query filter input old new r status =
    ((a : Answer) × IsAnswerAsked o query filter input a × IsTold a old new r status)
    ⊎ ((f : Refused) × IsRefusedSo o query filter input f × IsUntold old new r × (status ≡ code_of f))
