use Rattle.std.proofs.Common.{◌-◌, refl, sym, subst, arith}
use Rattle.jp_flat_nodes.specs.Nodes.{source}
use Rattle.jp_flat_nodes.specs.inner.Reads.{Reads}
use Rattle.jp_flat_nodes.proofs.Fractions.{unsigned_number}
use Rattle.jp_flat_nodes.proofs.OneNode.{number_leaf}
use Rattle.jp_flat_nodes.proofs.numbers.unsigned.Goals as goal

pub returns : goal.returns
returns c h all more =
    let line = c.args.line.now in
    let at = c.args.at in
    let d = c.args.decimals in
    let end = c.unsigned_end-end.result in
    let is = c.unsigned_end-end.ensures (omega arith) in
    let put = c.put.ensures (omega arith) in
    let src = source line all in (
      more,
      subst (λ e. Reads src d at e c.args.depth c.args.out.now.nodes.items c.put.new.nodes.items) (sym put.0)
          (number_leaf src d at end (end - at) c.args.depth _ _ is.ordered is.inside
          (unsigned_number line d at end is) refl put.1),
    )
