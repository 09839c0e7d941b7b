use Rattle.std.proofs.Common.{Some, sym, ap, ◌∙◌}
use Rattle.jp_doc.specs.Location.{node}
use Rattle.jp_node.specs.Part.{part_value}
use Rattle.jp_eval.specs.inner.Base.{base_of}
use Rattle.jp_eval.specs.inner.Walk.{value_given}
use Rattle.jp_eval.proofs.CompiledParts.{given_constant, given_single}
use Rattle.std.proofs.lemmas.Option.{IfSome_then}
use Rattle.jp_eval.proofs.local.side.Goals as goal

pub returns-in-Constant : goal.returns-in-Constant
returns-in-Constant c = λ at.
    let base = base_of c.args.context.now in
    let n = node at (part_value c.args.value) in
    ap Some c.literal.ensures ∙ sym (ap (λ v. value_given base v n)
    c.in-Constant.is ∙ given_constant base n c.in-Constant.constant)

pub returns-in-Some : goal.returns-in-Some
returns-in-Some c = λ at.
    let base = base_of c.args.context.now in
    let n = node at (part_value c.args.value) in
    c.kind_of.ensures ∙ sym (c.in-Some.ensures base at)
    ∙ sym (ap (λ v. value_given base v n) c.in-Single.is ∙ given_single base n c.in-Single.nodes)

pub returns-in-None : goal.returns-in-None
returns-in-None c = IfSome_then c.given.result c.given.ensures
    (λ o f at. f (node at (part_value c.args.value)))

pub returns-in_default : goal.returns-in_default
returns-in_default c = IfSome_then c.given-in_default.result c.given-in_default.ensures
    (λ o f at. f (node at (part_value c.args.value)))
