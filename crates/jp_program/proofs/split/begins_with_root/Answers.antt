use Rattle.std.proofs.Common.{◌∙◌, arith}
use Rattle.jp_program.proofs.Splits.{begins_byte}
use Rattle.jp_program.proofs.split.begins_with_root.Goals as goal

pub returns : goal.returns
returns c = c.starts_with.ensures.byte (omega arith) (omega arith) (λ w o h. h)
    ∙ begins_byte c.args.text.now c.utf8.text
