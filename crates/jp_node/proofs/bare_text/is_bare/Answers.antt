use Rattle.std.proofs.Common.{arith}
use Rattle.jp_node.proofs.BareTexts.{two_cover}
use Rattle.jp_node.proofs.bare_text.is_bare.Goals as goal

pub returns-then-count-ge-HALF : goal.returns-then-count-ge-HALF
returns-then-count-ge-HALF c =
    two_cover c.args.quote c.args.bytes.now 8 _ _ _ (omega arith) (omega arith) c.escapes-first.ensures
    c.escapes-last.ensures

pub returns-then-count-ge-QUARTER : goal.returns-then-count-ge-QUARTER
returns-then-count-ge-QUARTER c =
    two_cover c.args.quote c.args.bytes.now 4 _ _ _ (omega arith) (omega arith)
    c.escapes-first-then-count-ge-QUARTER.ensures c.escapes-last-then-count-ge-QUARTER.ensures
