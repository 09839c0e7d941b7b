use Rattle.std.proofs.Common.{arith}
use Rattle.jp_flat_nodes.proofs.Fractions.{written_is}
use Rattle.jp_flat_nodes.proofs.numbers.written_end.Goals as goal

pub returns : goal.returns
returns c h =
    written_is c.args.line.now c.args.from c.args.whole c.fraction_end-point.result c.exponent_end-end.result
    c.requires.2 (c.fraction_end-point.ensures (omega arith)) (c.exponent_end-end.ensures h) h (omega arith)
