use Rattle.std.proofs.Common.{sym, ◌∙◌}
use Rattle.std.proofs.lemmas.Option.{IfSome_then}
use Rattle.jp_eval.proofs.context.Context.pattern.Goals as goal

pub returns-in-Some : goal.returns-in-Some
returns-in-Some c = IfSome_then c.pattern.result c.pattern.ensures (λ kept h n. sym (c.in-Some.ensures n) ∙ h)
