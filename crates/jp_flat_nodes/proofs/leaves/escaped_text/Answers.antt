use Rattle.std.proofs.Common.{refl, ap, sym, subst, arith}
use Rattle.json.specs.Token as token
use Rattle.jp_flat_nodes.specs.Nodes.{source}
use Rattle.jp_flat_nodes.specs.inner.Reads.{Reads}
use Rattle.jp_flat_nodes.specs.declared.node.FlatNode.TheVariants.{Escaped}
use Rattle.jp_flat_nodes.proofs.OneNode.{text_leaf, told_written, stands_behind, goes_on_before}
use Rattle.jp_flat_nodes.proofs.leaves.escaped_text.Goals as goal

pub returns : goal.returns
returns c h all g =
    let line = c.args.line.now in
    let at = c.args.at in
    let u = c.in-Some.ensures in
    let w = u.written in
    let src = source line all in
    let put = c.put.ensures (omega (arith, u.inside)) in
    let here = stands_behind _ _ all w.more c.in-Some.text.from c.in-Some.text.count w.behind g u.begins
    u.counts in (
      goes_on_before _ _ all w.more w.behind g,
      subst (λ e. Reads src c.args.decimals at e c.args.depth c.args.out.now.nodes.items
          c.put.new.nodes.items)
          (sym put.0)
          (text_leaf src c.args.decimals at _ c.args.depth _ _ (Escaped c.in-Some.text.from
          c.in-Some.text.count) w.more
          (told_written line all at _ _ _ w c.requires.1 c.requires.2 u.inside u.quote)
          (ap token.string here.0) refl here.1 put.1),
    )
