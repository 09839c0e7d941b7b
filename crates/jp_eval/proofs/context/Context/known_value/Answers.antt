use Rattle.std.proofs.Common.{◌∙◌}
use Rattle.jp_eval.proofs.context.Context.known_value.Goals as goal

pub returns-in-Some : goal.returns-in-Some
returns-in-Some c = λ n. c.value.ensures ∙ c.in-Some.ensures n
