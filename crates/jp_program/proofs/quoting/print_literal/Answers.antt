use Rattle.jp_program.proofs.Printing.{ended_printing}
use Rattle.jp_program.proofs.quoting.print_literal.Goals as goal

pub returns-in-Err-clause-printed : goal.returns-in-Err-clause-printed
returns-in-Err-clause-printed g c = ended_printing _ c.in-Err.fault _ _ _ _ _ _ _ c.status.ensures
    c.in-Err.ensures.fault c.pass_on_after.ensures.kept c.pass_on_after.ensures.failed
