use Rattle.std.proofs.Common.{rules}
use Rattle.jp_syntax.proofs.arguments.opened_arguments.Goals as goal

pub returns : goal.returns
returns c = search rules
