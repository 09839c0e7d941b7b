use Rattle.std.proofs.Common.{◌∙◌, arith}
use Rattle.jp_flat_nodes.proofs.Digits.{digits_are}
use Rattle.jp_flat_nodes.proofs.numbers.whole_end.Goals as goal
use Rattle.jp_flat_nodes.proofs.numbers.whole_end.Goals.{else-byte_at-eq48-via-else-byte_at-eq48}
use Rattle.jp_flat_nodes.proofs.numbers.whole_end.Goals.{}
use Rattle.jp_flat_nodes.proofs.numbers.whole_end.Goals.{else-byte_at-eq48-via-then-byte_at-eq48+else-end-from-2}

pub returns : goal.returns
returns c h =
    digits_are c.args.line.now c.args.from c.digits_end-end.result c.digits_end-end.ensures.value h
    (omega (arith, c.digits_end-end.ensures.value)) (omega arith) (elim c.else-byte_at-eq48.branch [
      | else-byte_at-eq48-via-then-byte_at-eq48+else-end-from-2 w ↦ λ zero. omega arith
      | else-byte_at-eq48-via-else-byte_at-eq48 w ↦ λ zero.
          absurd (w.if-byte_at-eq48.false (c.byte_at.ensures.value ∙ zero))
    ])
