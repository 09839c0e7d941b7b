use Rattle.std.proofs.Common.{◌≡◌, ◌+◌, ◌∙◌, refl, ap, sym, subst, arith}
use Rattle.json.specs.Token as token
use Rattle.jp_flat_nodes.specs.Nodes.{source}
use Rattle.jp_flat_nodes.specs.inner.Reads.{ReadsKey}
use Rattle.jp_flat_nodes.specs.declared.node.FlatNode.TheVariants.{EscapedKey}
use Rattle.jp_flat_nodes.proofs.OneNode.{key_read, told_written, stands_behind, goes_on_before}
use Rattle.jp_flat_nodes.proofs.leaves.escaped_key.Goals as goal

pub returns : goal.returns
returns c h all g =
    let line = c.args.line.now in
    let at = c.args.at in
    let u = c.in-Some.ensures in
    let w = u.written in
    let src = source line all in
    let stop = c.in-Some.name.stop in
    let put = c.put.ensures (omega (arith, u.inside)) in
    let end : stop + 1 + 1 ≡ stop + 2 = omega arith in
    let here = stands_behind _ _ all w.more c.in-Some.name.from c.in-Some.name.count w.behind g u.begins
    u.counts in (
      goes_on_before _ _ all w.more w.behind g,
      subst (λ e. ReadsKey src at e c.args.out.now.nodes.items c.put.new.nodes.items) (end ∙ sym put.0)
          (key_read src at (stop + 1) _ _ (EscapedKey c.in-Some.name.from c.in-Some.name.count) w.more
          (told_written line all at _ _ _ w c.requires.1 c.requires.2 u.inside u.quote)
          (c.byte_at.ensures.within (λ e. omega arith)) (omega (arith, c.byte_at.ensures.value))
          (ap token.key here.0) refl here.1 put.1),
    )
