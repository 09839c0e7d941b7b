-- How an answer to input is written.
use Rattle.std.specs.Prelude.{ℕ, List}
use Rattle.jp_output.specs.OutputForm.{OutputForm}
use Rattle.jp_answer.specs.declared.policy.LinePolicy.{LinePolicy}
use Rattle.jp_run.specs.Cutting.{Numbering, last_number}

-- how input is cut and its documents are numbered, in which form they are answered, how they are read, and
-- what is done where one is faulty
pub record Manner : Type 0 where
  pub numbering : Numbering
  pub form : OutputForm
  pub policy : LinePolicy

abbrev pub manner : Numbering → OutputForm → LinePolicy → Manner
manner numbering form p = record { numbering = numbering; form = form; policy = p }

-- the same for input that stands behind these bytes: its first part has the number behind their last
abbrev pub manner_behind : Manner → List ℕ → Manner
manner_behind going bytes = manner
    (record { cutting = going.numbering.cutting; before = last_number going.numbering bytes })
    going.form going.policy
