use Rattle.std.proofs.Common.{sym, ◌∙◌}
use Rattle.std.proofs.lemmas.Option.{IfSome_then}
use Rattle.jp_eval.proofs.context.Context.ordered.Goals as goal

pub returns-in-Some : goal.returns-in-Some
returns-in-Some c = IfSome_then c.ordered.result c.ordered.ensures (λ kept h n. sym (c.in-Some.ensures n) ∙ h)
