use Rattle.std.proofs.Common.{sym, ap, ◌∙◌}
use Rattle.jp_doc.specs.Location.{node}
use Rattle.jp_compiled.specs.declared.query.Want.TheVariants as want
use Rattle.jp_node.specs.Part.{part_value}
use Rattle.jp_value.specs.Functions.{first_value}
use Rattle.jp_eval.specs.inner.Walk.{nodes_given}
use Rattle.jp_eval.proofs.CompiledParts.{nodes_here}
use Rattle.std.proofs.lemmas.Option.{IfSome_then}
use Rattle.jp_eval.proofs.local.first_of.Goals as goal

pub returns-in-Here : goal.returns-in-Here
returns-in-Here c = IfSome_then c.followed.result c.followed.ensures (λ found f base at.
    let n = node at (part_value c.args.value) in
    let nodes = nodes_here base n c.in-Here.segments c.as_slice.result.now want.First
    c.as_slice.ensures.value ∙ sym (ap (λ q. nodes_given base q want.First n) c.in-Here.is) in
    ap first_value (sym nodes) ∙ f base at)
