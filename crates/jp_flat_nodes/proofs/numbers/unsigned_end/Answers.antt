use Rattle.std.proofs.Common.{◌≡◌, false, sym, subst, arith}
use Rattle.jp_flat_nodes.specs.inner.Reads.{IsUnsigned}
use Rattle.jp_flat_nodes.proofs.Fractions.{digits_alone}
use Rattle.jp_flat_nodes.proofs.numbers.unsigned_end.Goals as goal
use Rattle.jp_flat_nodes.proofs.numbers.unsigned_end.Goals.{then-not-decimals-via-then-not-decimals}
use Rattle.jp_flat_nodes.proofs.numbers.unsigned_end.Goals.{}
use Rattle.jp_flat_nodes.proofs.numbers.unsigned_end.Goals.{then-not-decimals-via-else-not-decimals+then-whole-line}

pub returns-then-not-decimals : goal.returns-then-not-decimals
returns-then-not-decimals c h = elim c.then-not-decimals.branch [
  | then-not-decimals-via-then-not-decimals w ↦
      let whole : c.args.decimals ≡ false = grind arith in
      subst (λ d. IsUnsigned c.args.line.now d c.args.from c.whole_end-whole.result) (sym whole)
      (digits_alone c.args.line.now c.args.from c.whole_end-whole.result (c.whole_end-whole.ensures h))
  | then-not-decimals-via-else-not-decimals+then-whole-line w ↦ absurd (omega arith)
]
