use Rattle.std.proofs.Common.{◌≡◌, ◌-◌, ◌+◌, refl, ap, sym, subst, arith}
use Rattle.json.specs.Token as token
use Rattle.jp_flat_nodes.specs.Nodes.{source, piece}
use Rattle.jp_flat_nodes.specs.inner.Reads.{Reads}
use Rattle.jp_flat_nodes.specs.declared.node.FlatNode.TheVariants.{Text}
use Rattle.jp_flat_nodes.proofs.OneNode.{text_leaf, told_plain, plain_within}
use Rattle.jp_flat_nodes.proofs.leaves.text.Goals as goal

pub returns : goal.returns
returns c h all more =
    let line = c.args.line.now in
    let at = c.args.at in
    let stop = c.closing-stop.result in
    let count = stop - at - 1 in
    let src = source line all in
    let is = c.closing-stop.ensures (omega arith) in
    let put = c.put.ensures (omega arith) in
    let same : count ≡ stop - (at + 1) = omega arith in (
      more,
      subst (λ e. Reads src c.args.decimals at e c.args.depth c.args.out.now.nodes.items
          c.put.new.nodes.items)
          (sym put.0)
          (text_leaf src c.args.decimals at (stop + 1) c.args.depth _ _ (Text (at + 1) count)
          (piece line (at + 1) (stop - (at + 1)))
          (told_plain src at stop (omega arith) c.requires.1 is)
          (ap (λ k. token.string (piece line (at + 1) k)) same) refl
          (plain_within line at stop count (omega arith) c.requires.1 is same) put.1),
    )
