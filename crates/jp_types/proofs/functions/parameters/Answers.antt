use Rattle.std.proofs.Common.{rules}
use Rattle.jp_types.proofs.functions.parameters.Goals as goal

pub returns-in-Match : goal.returns-in-Match
returns-in-Match c = search rules
