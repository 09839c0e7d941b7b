-- A working file, which nobody has to believe: an answer that is added to, for private clauses alone.
use Rattle.std.specs.Prelude.{ℕ, List, [], Option, None, Some, option_map}
use Rattle.jp_doc.specs.declared.fault.DocFault.{DocFault}
use Rattle.jp_output.specs.OutputForm.{OutputForm}
use Rattle.jp_answer.specs.Answer.{Answer}
use Rattle.jp_answer.specs.declared.on_fault.OnFault.{OnFault}
use Rattle.jp_answer.specs.declared.on_fault.OnFault.TheVariants.{Stop, KeepGoing}
use Rattle.jp_answer.specs.declared.outcome.DocStop.{DocStop}

-- these bytes were written, it ends there, if it does, and passes so many faulty lines
abbrev pub told : List ℕ → Option DocStop → ℕ → Answer
told bytes stopped faulty = record {
  bytes = bytes;
  stopped = option_map (λ s. (s.line, s.fault)) stopped;
  faulty = faulty;
}

-- the answer to a line with this number and fault alone
abbrev pub fault_answer : OutputForm → OnFault → ℕ → DocFault → Answer
fault_answer form Stop number fault = record { bytes = []; stopped = Some (number, fault); faulty = 0 }
fault_answer form KeepGoing number fault =
    record { bytes = form.of_fault number fault; stopped = None; faulty = 1 }
