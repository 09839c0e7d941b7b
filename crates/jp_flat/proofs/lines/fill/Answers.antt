use Rattle.std.proofs.Common.{◌≤◌, length, refl, arith}
use Rattle.jp_doc.specs.Reading.{max_line}
use Rattle.jp_flat_nodes.specs.Nodes.{source}
use Rattle.jp_flat.proofs.ReadNodes.{read_whole}
use Rattle.jp_flat.proofs.WholeFaults.{no_text_line}
use Rattle.jp_flat.proofs.lines.fill.Goals as goal

pub returns-in_default : goal.returns-in_default
returns-in_default c =
    let short : length c.args.line.now ≤ max_line = omega arith in
    no_text_line c.args.line.now c.in_default.ensures short

pub returns-then-read_line : goal.returns-then-read_line
returns-then-read_line c =
    let line = c.args.line.now in
    let short : length line ≤ max_line = omega arith in
    read_whole (source line c.read_line.new.out.texts.items) c.read_line.new.out.nodes.items
    (c.if-read_line.ensures refl) c.in-Ok.ensures.1 short
