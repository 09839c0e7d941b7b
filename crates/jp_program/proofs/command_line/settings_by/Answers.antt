use Rattle.std.proofs.Common.{refl}
use Rattle.jp_program.proofs.command_line.settings_by.Goals as goal

pub returns-in_err-settings-clause-none : goal.returns-in_err-settings-clause-none
returns-in_err-settings-clause-none c = λ h. c.in_err-settings.ensures.none refl
