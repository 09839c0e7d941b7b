use Rattle.std.proofs.Common.{arith}
use Rattle.std.proofs.lemmas.Grind.{common_steps}
use Rattle.jp_run.proofs.settings.Settings.new.Goals as goal

pub returns-then-not-contains-clause-in_range : goal.returns-then-not-contains-clause-in_range
returns-then-not-contains-clause-in_range c = grind (arith, common_steps)
