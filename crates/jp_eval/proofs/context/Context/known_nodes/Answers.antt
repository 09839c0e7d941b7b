use Rattle.std.proofs.Common.{sym, ap, ◌∙◌}
use Rattle.jp_found.specs.Aggregates.{tells}
use Rattle.jp_eval.specs.inner.Base.{base_of}
use Rattle.jp_eval.specs.inner.Walk.{nodes_given}
use Rattle.jp_eval.proofs.CompiledParts.{nodes_root}
use Rattle.jp_found.proofs.Rooting.{some_of}
use Rattle.jp_eval.proofs.context.Context.known_nodes.Goals as goal

pub returns-in-Root : goal.returns-in-Root
returns-in-Root c =
    let base = base_of c.args.self.now in
    let want = c.args.want in
    some_of _ c.answered.result c.answered.ensures (λ known h n. ap (λ ns. tells want ns known.now.answer)
    (ap (λ q. nodes_given base q want n) c.in-Root.is ∙ sym (nodes_root base n c.in-Root.slot want)) ∙ h n)
