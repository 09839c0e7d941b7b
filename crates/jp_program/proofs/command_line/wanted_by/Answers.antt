use Rattle.std.proofs.Common.{refl, subst, sym}
use Rattle.std.specs.Prelude.{IsNone}
use Rattle.jp_program.proofs.command_line.wanted_by.Goals as goal

pub returns-in_default-clause-none : goal.returns-in_default-clause-none
returns-in_default-clause-none c = λ h w s.
    c.in_ok-files.ensures.none (subst IsNone (sym c.in_default.is) refl) w.files s.files
