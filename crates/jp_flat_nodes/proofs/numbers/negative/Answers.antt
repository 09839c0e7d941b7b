use Rattle.std.proofs.Common.{◌≡◌, ◌∙◌, ◌-◌, ◌+◌, ◌<◌, ◌==◌, false, get_or, refl, sym, ap, subst, arith}
use Rattle.jp_flat_nodes.specs.Nodes.{source}
use Rattle.jp_flat_nodes.specs.inner.Reads.{Reads}
use Rattle.jp_flat_nodes.proofs.Fractions.{negative_number}
use Rattle.jp_flat_nodes.proofs.OneNode.{number_leaf}
use Rattle.jp_flat_nodes.proofs.numbers.negative.Goals as goal
use Rattle.jp_flat_nodes.proofs.numbers.negative.Goals.{then-not-decimals, else-not-decimals}

pub returns : goal.returns
returns c h all more =
    let line = c.args.line.now in
    let at = c.args.at in
    let d = c.args.decimals in
    let end = c.unsigned_end-end.result in
    let is = c.unsigned_end-end.ensures (omega arith) in
    let put = c.put.ensures (omega arith) in
    let later : at < end = omega (arith, is.ordered) in
    let some : d ≡ false → (get_or line (at + 1) 0 == 48) ≡ false = λ whole.
    elim c.if-not-decimals.branch [
      | then-not-decimals w ↦ ap (λ x. x == 48) (sym w.byte_at.ensures.value) ∙ sym w.value-is
          ∙ c.if-byte_at-eq48.false
      | else-not-decimals w ↦ absurd (grind arith)
    ] in
    let src = source line all in (
      more,
      subst (λ e. Reads src d at e c.args.depth c.args.out.now.nodes.items c.put.new.nodes.items) (sym put.0)
          (number_leaf src d at end (end - at) c.args.depth _ _ later is.inside
          (negative_number line d at end (omega arith) c.requires.2 is some) refl put.1),
    )
