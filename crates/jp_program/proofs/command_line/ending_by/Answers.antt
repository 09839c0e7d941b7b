use Rattle.std.proofs.Common.{refl}
use Rattle.jp_program.proofs.command_line.ending_by.Goals as goal

pub returns-in_err-null-clause-none : goal.returns-in_err-null-clause-none
returns-in_err-null-clause-none c = λ h e s. c.in_err-null.ensures.none refl _ s.0
