-- How printing a literal ends.
use Rattle.std.proofs.Common.{◌≡◌, ◌∙◌, ◌⊎◌, inl, inr, ℕ, Bool, true, List, Option, ap, sym}
use Rattle.std.proofs.KnownBytes.{Keeps-trans, Appends-kept}
use Rattle.std.specs.Io.KnownBytes.{Keeps}
use Rattle.clap.specs.Walk.{Text}
use Rattle.jp_program.specs.Printed.{IsPrinted, literal_line}
use Rattle.jp_run.specs.Status.{status_of}
use Rattle.jp_run.specs.Written.{AppendsFront}
use Rattle.jp_run.specs.declared.fault.RunFault.{RunFault}
use Rattle.jp_run.specs.declared.fault.RunFault.TheVariants.{Write, Memory}

-- by a fault, behind which the sink keeps its bytes, and a failure of it
pub ended_printing : (value : Text) (fault : RunFault) (status : ℕ) (old mid new : Option (List ℕ))
    (flushed was failed : Bool) → status ≡ status_of fault
    → ((fault ≡ Memory) × Keeps old mid)
    ⊎ ((fault ≡ Write) × (was ≡ true) × AppendsFront old mid (literal_line value))
    → Keeps mid new → (was ≡ true → failed ≡ true) → IsPrinted value status old new flushed failed
ended_printing value fault status old mid new flushed was failed is (inl h) kept still =
    inr (inr (is ∙ ap status_of h.0, Keeps-trans old mid new h.1 kept))
ended_printing value fault status old mid new flushed was failed is (inr h) kept still =
    inr (inl (
      is ∙ ap status_of h.0,
      (h.2.0, h.2.1, Appends-kept old mid new _ h.2.2 kept),
      still h.1,
    ))

-- it has no other fault
pub printing_fault : {P : Type 0} (fault : RunFault) (status : ℕ) → status ≡ status_of fault
    → (status_of fault ≡ 4 → P) → (status_of fault ≡ 5 → P) → (status ≡ 4) ⊎ (status ≡ 5) → P
printing_fault fault status is write memory (inl e) = write (sym is ∙ e)
printing_fault fault status is write memory (inr e) = memory (sym is ∙ e)
