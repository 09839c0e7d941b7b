use Rattle.std.proofs.Common.{refl}
use Rattle.jp_program.proofs.command_line.names_by.Goals as goal

pub returns-in_err-there-clause-none : goal.returns-in_err-there-clause-none
returns-in_err-there-clause-none c = λ h names s. c.in_err-there.ensures.none refl s.0 s.1
