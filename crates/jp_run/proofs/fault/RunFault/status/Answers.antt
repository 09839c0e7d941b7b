use Rattle.std.proofs.Common.{rules}
use Rattle.jp_run.proofs.fault.RunFault.status.Goals as goal

pub returns-in-Memory : goal.returns-in-Memory
returns-in-Memory c = search rules
