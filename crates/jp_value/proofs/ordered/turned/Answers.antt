use Rattle.std.proofs.Common.{◌∙◌, sym, ap, not}
use Rattle.jp_value.specs.Comparison as spec
use Rattle.jp_value.proofs.Sameness.{eq_turn}
use Rattle.jp_value.proofs.ordered.turned.Goals as goal

pub returns-in-Eq : goal.returns-in-Eq
returns-in-Eq c a b = eq_turn b a ∙ sym (ap (λ o. spec.compared o a b) c.in-Eq.is)

pub returns-in-Ne : goal.returns-in-Ne
returns-in-Ne c a b = ap not (eq_turn b a) ∙ sym (ap (λ o. spec.compared o a b) c.in-Ne.is)
