use Rattle.std.proofs.Common.{◌≡◌, ◌+◌, subst, arith}
use Rattle.std.proofs.lemmas.Bool.Decides.{nat_tests}
use Rattle.json.specs.Text.{surrogate_pair}
use Rattle.jp_flat_nodes.specs.inner.Reads.{IsEscape}
use Rattle.jp_flat_nodes.proofs.Unescaping.{pair_read}
use Rattle.jp_flat_nodes.proofs.escapes.read_pair.Goals as goal

pub returns : goal.returns
returns c =
    let same : surrogate_pair c.args.high c.in_ok-low.low ≡ c.in_ok-letter.letter = grind arith in
    subst (λ l. IsEscape c.args.line.now c.args.at l (c.args.at + 12)) same
    (pair_read c.args.line.now c.args.at c.args.high c.in_ok-low.low (omega arith) c.requires.escape.0
    c.requires.escape.1 (grind arith) (grind arith) c.requires.high.2 c.in_ok-low.ensures (grind (
      arith,
      nat_tests,
    ))
    (grind (arith, nat_tests)))
