use Rattle.std.proofs.Common.{◌∙◌, ap, sym, eqb, arith}
use Rattle.std.proofs.lemmas.Bool.{ne_eqb, eq-eqb}
use Rattle.jp_node.specs.Bare.{stands_bare}
use Rattle.jp_node.proofs.BareTexts.{empty_mask, one_fails, more_pass, end_decides}
use Rattle.jp_node.proofs.bare_text.is_long_bare.Goals as goal

pub returns-then-escapes-ne0 : goal.returns-then-escapes-ne0
returns-then-escapes-ne0 c =
    sym (one_fails (stands_bare c.args.quote) c.args.bytes.now c.loop-at.at 16
    (sym (empty_mask c.args.quote _) ∙ ap (λ k. eqb k 0) (sym c.escapes.ensures)
    ∙ ne_eqb _ 0 c.if-escapes-ne0.true))

pub loop-at-preserved : goal.loop-at-preserved
loop-at-preserved c = record {
  passed = more_pass (stands_bare c.args.quote) c.args.bytes.now c.loop-at.at 16 c.loop-at.invariant.passed
      (sym (empty_mask c.args.quote _) ∙ ap (λ k. eqb k 0) (sym c.escapes.ensures)
      ∙ eq-eqb _ 0 c.if-escapes-ne0.false);
  within = omega (arith, c.requires);
}

pub returns : goal.returns
returns c =
    ap (λ k. eqb k 0) c.escapes-2.ensures ∙ empty_mask c.args.quote _
    ∙ end_decides (stands_bare c.args.quote) c.args.bytes.now c.loop-at.at _ 16 (omega (arith, c.requires))
    (omega arith) c.loop-at.invariant.passed
