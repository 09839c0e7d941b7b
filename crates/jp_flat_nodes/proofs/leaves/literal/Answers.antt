use Rattle.std.proofs.Common.{◌≡◌, ◌∷◌, ◌∙◌, ◌+◌, true, false, drop, refl, sym, ap, subst, arith}
use Rattle.json.specs.Json.{boolean, null}
use Rattle.json.specs.Token as token
use Rattle.jp_flat_nodes.specs.Nodes.{source}
use Rattle.jp_flat_nodes.specs.inner.Reads.{Reads}
use Rattle.jp_flat_nodes.specs.declared.node.FlatNode.TheVariants.{Truth, Null}
use Rattle.jp_flat_nodes.proofs.Cuts.{byte_then}
use Rattle.jp_flat_nodes.proofs.OneNode.{leaf}
use Rattle.jp_flat_nodes.proofs.leaves.literal.Goals as goal

pub returns-then-goes_on : goal.returns-then-goes_on
returns-then-goes_on c h all g =
    let line = c.args.line.now in
    let at = c.args.at in
    let put = c.put.ensures (omega arith) in
    let more = c.if-goes_on.ensures refl in
    let src = source line all in (
      g,
      subst (λ e. Reads src c.args.decimals at e c.args.depth c.args.out.now.nodes.items
          c.put.new.nodes.items)
          (sym put.0)
          (leaf src c.args.decimals at (at + 4) c.args.depth _ _ (Truth true) (boolean true)
          (token.boolean true) _ (omega arith)
          refl refl tt refl refl refl refl (byte_then line at 116 (omega arith) (omega arith)
          ∙ ap (λ l. 116 ∷ l) more.1) refl tt put.1),
    )

pub returns-then-goes_on-2 : goal.returns-then-goes_on-2
returns-then-goes_on-2 c h all g =
    let line = c.args.line.now in
    let at = c.args.at in
    let put = c.put-then-goes_on-2.ensures (omega arith) in
    let more = c.if-goes_on-2.ensures refl in
    let src = source line all in (
      g,
      subst (λ e. Reads src c.args.decimals at e c.args.depth c.args.out.now.nodes.items
          c.put-then-goes_on-2.new.nodes.items)
          (sym put.0)
          (leaf src c.args.decimals at (at + 4) c.args.depth _ _ Null null token.null _ (omega arith)
          refl refl tt refl refl refl refl (byte_then line at 110 (omega arith) (omega arith)
          ∙ ap (λ l. 110 ∷ l) more.1) refl tt put.1),
    )

pub returns-then-byte_at-eq101 : goal.returns-then-byte_at-eq101
returns-then-byte_at-eq101 c h all g =
    let line = c.args.line.now in
    let at = c.args.at in
    let put = c.put-then-byte_at-eq101.ensures (omega arith) in
    let more = c.if-goes_on-3.ensures refl in
    let last = byte_then line (at + 4) 101 (c.byte_at.ensures.within (λ e. omega arith))
    (omega (arith, c.byte_at.ensures.value)) in
    let back : at + 4 + 1 ≡ at + 5 = omega arith in
    let src = source line all in (
      g,
      subst (λ e. Reads src c.args.decimals at e c.args.depth c.args.out.now.nodes.items
          c.put-then-byte_at-eq101.new.nodes.items) (sym put.0)
          (leaf src c.args.decimals at (at + 5) c.args.depth _ _ (Truth false) (boolean false)
          (token.boolean false) _ (omega arith)
          refl refl tt refl refl refl refl (byte_then line at 102 (omega arith) (omega arith)
          ∙ ap (λ l. 102 ∷ l) (more.1 ∙ ap (λ l. 97 ∷ 108 ∷ 115 ∷ l) (last
          ∙ ap (λ i. 101 ∷ drop i line) back))) refl tt put.1),
    )
