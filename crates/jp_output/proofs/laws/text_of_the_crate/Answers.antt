use Rattle.std.proofs.Common.{sym}
use Rattle.jp_output.proofs.Texts.{text_same, view_text}
use Rattle.jp_output.proofs.laws.text_of_the_crate.Goals as goal

pub returns-clause-of_a_value : goal.returns-clause-of_a_value
returns-clause-of_a_value c = text_same

pub returns-clause-of_a_crate_value : goal.returns-clause-of_a_crate_value
returns-clause-of_a_crate_value c = λ v h. sym (view_text v h)
