use Rattle.std.proofs.Common.{arith}
use Rattle.jp_flat_nodes.proofs.Cuts.{plain_text}
use Rattle.jp_flat_nodes.proofs.leaves.closing.Goals as goal

pub returns-then-byte_at-eq34 : goal.returns-then-byte_at-eq34
returns-then-byte_at-eq34 c inside =
    plain_text c.args.line.now c.args.from c.plain_end-stop.result (omega arith)
    c.plain_end-stop.ensures.value inside (omega (arith, c.byte_at.ensures.value))
