use Rattle.std.proofs.Common.{rules}
use Rattle.jp_types.proofs.numbers.slice_faults.Goals as goal

pub returns : goal.returns
returns c = search rules
