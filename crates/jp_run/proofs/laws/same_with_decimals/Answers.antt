use Rattle.std.proofs.Common.{◌∙◌}
use Rattle.jp_run.specs.Cutting.{documents}
use Rattle.jp_answer.proofs.Decimals.{same_answer}
use Rattle.jp_run.specs.Forms.{form_of}
use Rattle.jp_run.proofs.Accepted.{with_decimals}
use Rattle.jp_run.proofs.laws.same_with_decimals.Goals as goal

pub returns : goal.returns
returns c = λ numbering output layout k asked input a none h. (
  h.0,
  with_decimals asked h.0 h.1,
  λ t right. same_answer (form_of output layout) t h.0 k (documents numbering input) none ∙ h.2 t right,
)
