use Rattle.std.proofs.Common.{sym, ap, ◌∙◌}
use Rattle.std.proofs.lemmas.Option.{IfSome_then}
use Rattle.jp_compiled.specs.declared.query.Want.TheVariants as want
use Rattle.jp_eval.specs.inner.Base.{base_of}
use Rattle.jp_eval.specs.inner.Walk.{value_given, nodes_given}
use Rattle.jp_eval.proofs.CompiledParts.{given_single, given_only}
use Rattle.jp_found.proofs.Telling.{told_first, told_only}
use Rattle.jp_eval.proofs.context.Context.known.Goals as goal

pub returns-in-Single : goal.returns-in-Single
returns-in-Single c =
    let base = base_of c.args.self.now in
    let nodes = c.in-Single.nodes in
    IfSome_then c.known_nodes.result c.known_nodes.ensures (λ known h n.
    told_first known.now.answer (nodes_given base nodes want.First n) (h n)
    ∙ sym (ap (λ v. value_given base v n) c.in-Single.is ∙ given_single base n nodes))

pub returns-in-Only : goal.returns-in-Only
returns-in-Only c =
    let base = base_of c.args.self.now in
    let nodes = c.in-Only.nodes in
    IfSome_then c.known_nodes-in-Only.result c.known_nodes-in-Only.ensures (λ known h n.
    told_only known.now.answer (nodes_given base nodes want.Only n) (h n)
    ∙ sym (ap (λ v. value_given base v n) c.in-Only.is ∙ given_only base n nodes))
