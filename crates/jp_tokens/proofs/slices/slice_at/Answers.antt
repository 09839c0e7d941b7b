use Rattle.std.proofs.Common.{rules}
use Rattle.jp_tokens.specs.Reading.{slice_at}
use Rattle.jp_tokens.proofs.slices.slice_at.Goals as goal

pub returns : goal.returns
unfolding slice_at
returns c = search rules
