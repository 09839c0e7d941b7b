use Rattle.std.proofs.Common.{refl, arith}
use Rattle.jp_program.proofs.Fields.{lacks}
use Rattle.jp_program.proofs.laws.name_is_field.Goals as goal

pub returns : goal.returns
returns c = λ name text named.
    (lacks 9 name refl (omega arith) text named, lacks 10 name refl (omega arith) text named)
