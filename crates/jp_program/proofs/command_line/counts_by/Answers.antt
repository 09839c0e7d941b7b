use Rattle.std.proofs.Common.{refl}
use Rattle.jp_program.proofs.command_line.counts_by.Goals as goal

pub returns-in_err-counts-clause-none : goal.returns-in_err-counts-clause-none
returns-in_err-counts-clause-none c = λ h e s. c.in_err-counts.ensures.none refl _ s.0
