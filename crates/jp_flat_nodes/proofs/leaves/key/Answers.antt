use Rattle.std.proofs.Common.{◌≡◌, ◌-◌, ◌+◌, get_or, refl, ap, sym, ◌∙◌, subst, arith}
use Rattle.json.specs.Token as token
use Rattle.jp_flat_nodes.specs.Nodes.{source, piece}
use Rattle.jp_flat_nodes.specs.inner.Reads.{ReadsKey}
use Rattle.jp_flat_nodes.specs.declared.node.FlatNode.TheVariants.{Key}
use Rattle.jp_flat_nodes.proofs.OneNode.{key_read, told_plain, plain_within}
use Rattle.jp_flat_nodes.proofs.leaves.key.Goals as goal

pub returns : goal.returns
returns c h all more =
    let line = c.args.line.now in
    let at = c.args.at in
    let stop = c.closing-stop.result in
    let count = stop - at - 1 in
    let src = source line all in
    let is = c.closing-stop.ensures (omega arith) in
    let put = c.put.ensures (omega arith) in
    let quote = c.byte_at.ensures.value in
    let same : count ≡ stop - (at + 1) = omega arith in
    let colon : get_or line (stop + 1) 0 ≡ 58 = omega (arith, c.byte_at-2.ensures.value) in
    let behind : at + 1 + count + 1 ≡ stop + 1 = omega (arith, is.ordered) in
    let end : stop + 1 + 1 ≡ stop + 2 = omega arith in (
      more,
      subst (λ e. ReadsKey src at e c.args.out.now.nodes.items c.put.new.nodes.items) (end ∙ sym put.0)
          (key_read src at (stop + 1) _ _ (Key (at + 1) count) (piece line (at + 1) (stop - (at + 1)))
          (told_plain src at stop (omega arith) (omega (arith, quote)) is)
          (c.byte_at-2.ensures.within (λ e. omega arith))
          colon
          (ap (λ k. token.key (piece line (at + 1) k)) same) refl (
            plain_within line at stop count (omega arith) (omega (arith, quote)) is same,
            ap (λ i. get_or line i 0) behind ∙ colon,
          ) put.1),
    )
