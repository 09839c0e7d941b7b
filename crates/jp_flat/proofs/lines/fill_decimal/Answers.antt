use Rattle.std.proofs.Common.{◌≤◌, length, refl, arith}
use Rattle.jp_doc.specs.Reading.{max_line}
use Rattle.jp_flat.proofs.Decimal.{no_text}
use Rattle.jp_flat_nodes.specs.Nodes.{source}
use Rattle.jp_flat.proofs.ReadNodes.{read_grammar}
use Rattle.jp_flat.proofs.lines.fill_decimal.Goals as goal

pub returns-in_default : goal.returns-in_default
returns-in_default c =
    let short : length c.args.line.now ≤ max_line = omega arith in
    no_text c.args.line.now c.in_default.ensures short

pub returns-then-read_decimal_line : goal.returns-then-read_decimal_line
returns-then-read_decimal_line c =
    let line = c.args.line.now in
    let short : length line ≤ max_line = omega arith in
    read_grammar (source line c.read_decimal_line.new.out.texts.items) c.read_decimal_line.new.out.nodes.items
    (c.if-read_decimal_line.ensures refl) c.in-Ok.ensures.1 short
