use Rattle.std.proofs.Common.{sym, ap, ◌∙◌}
use Rattle.jp_eval.specs.inner.Base.{base_of}
use Rattle.jp_eval.specs.inner.Walk.{is_true}
use Rattle.jp_eval.proofs.CompiledParts.{true_once}
use Rattle.jp_eval.proofs.context.Context.known_truth.Goals as goal

pub returns-in-Once : goal.returns-in-Once
returns-in-Once c = λ n.
    let base = base_of c.args.self.now in
    ap (λ l. is_true base l n) c.in-Once.is ∙ true_once base n c.in-Once.slot ∙ sym (c.truth.ensures n)
