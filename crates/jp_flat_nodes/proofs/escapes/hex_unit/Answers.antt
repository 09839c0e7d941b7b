use Rattle.std.proofs.Common.{◌<◌, arith}
use Rattle.jp_flat_nodes.proofs.Unescaping.{unit_is}
use Rattle.jp_flat_nodes.proofs.escapes.hex_unit.Goals as goal

pub returns-then-a-b : goal.returns-then-a-b
returns-then-a-b c =
    let a : c.hex_digit-a.result < 16 = grind arith in
    let b : c.hex_digit-b.result < 16 = grind arith in
    let k : c.hex_digit-c.result < 16 = grind arith in
    let d : c.hex_digit-d.result < 16 = grind arith in
    unit_is c.args.line.now c.args.at c.hex_digit-a.result c.hex_digit-b.result c.hex_digit-c.result
    c.hex_digit-d.result a b k d (c.hex_digit-a.ensures.value a) (c.hex_digit-b.ensures.value b)
    (c.hex_digit-c.ensures.value k) (c.hex_digit-d.ensures.value d) (c.hex_digit-a.ensures.plain a)
    (c.hex_digit-b.ensures.plain b) (c.hex_digit-c.ensures.plain k) (c.hex_digit-d.ensures.plain d)
