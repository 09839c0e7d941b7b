use Rattle.std.proofs.Common.{◌≡◌, ◌+◌, subst, arith}
use Rattle.std.proofs.lemmas.Bool.Decides.{nat_tests}
use Rattle.jp_flat_nodes.specs.inner.Reads.{IsEscape}
use Rattle.jp_flat_nodes.proofs.Unescaping.{unit_read}
use Rattle.jp_flat_nodes.proofs.escapes.read_unit.Goals as goal

pub returns : goal.returns
returns c =
    let same : c.in_ok-unit.unit ≡ c.in_ok-letter.letter = grind arith in
    subst (λ l. IsEscape c.args.line.now c.args.at l (c.args.at + 6)) same
    (unit_read c.args.line.now c.args.at c.in_ok-unit.unit (omega arith) c.requires.escape.0
    c.requires.escape.1
    c.in_ok-unit.ensures (grind (arith, nat_tests)) (grind (arith, nat_tests)))
