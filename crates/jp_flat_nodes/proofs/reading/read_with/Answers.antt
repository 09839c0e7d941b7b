use Rattle.std.proofs.Common.{◌∙◌, arith}
use Rattle.std.proofs.lemmas.Bool.{leb-true}
use Rattle.jp_flat_nodes.specs.Nodes.{source}
use Rattle.jp_flat_nodes.proofs.Cuts.{blanks}
use Rattle.jp_flat_nodes.proofs.Loops.{none_behind}
use Rattle.jp_flat_nodes.proofs.WholeLine.{whole_line}
use Rattle.jp_flat_nodes.proofs.reading.read_with.Goals as goal

pub returns-then-end-line : goal.returns-then-end-line
returns-then-end-line c few =
    let line = c.args.line.now in
    let texts = c.value-end.new.out.texts.items in
    let read = c.value-end.ensures (omega arith) texts (none_behind texts) in
    whole_line (source line texts) c.args.decimals c.blanks_end.result c.value-end.result
    c.reserve.new.self.items c.value-end.new.out.nodes.items
    (blanks line 0 c.blanks_end.result c.blanks_end.ensures) read.1 c.if-end-line.true
    (c.reserve.ensures.items ∙ c.clear.ensures.items)
    (omega (arith, leb-true _ _ few, c.len.ensures))
