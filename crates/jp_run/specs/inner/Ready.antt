-- A working file, which nobody has to believe: a sink between two batches, for private clauses alone.
use Rattle.std.specs.Prelude.{◌≡◌, false, true, Result, OnOk}
use Rattle.jp_run.specs.declared.ends.Sink as sink
use Rattle.jp_run.specs.declared.fault.RunFault.{RunFault}
use Rattle.jp_run.specs.Written.{IsPassedOn}

module _ {K : Type 0} (k : sink.Ghosts K) where
  -- no call of it has failed, and it holds nothing back
  pub record IsReady (u : K) : Type 0 where
    pub working : k.failed u ≡ false
    pub flushed : k.flushed u ≡ true

  -- so it is behind a step, unless a fault ended that
  pub record StaysReady {T : Type 0} (u : K) (result : Result T RunFault) : Type 0 where
    pub working : OnOk result (k.failed u ≡ false)
    pub flushed : OnOk result (k.flushed u ≡ true)
    -- also where it ended: nothing is held back, or a call has failed
    pub passed_on : IsPassedOn (k.flushed u) (k.failed u)
