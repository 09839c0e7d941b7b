use Rattle.std.proofs.Common.{refl}
use Rattle.jp_syntax.proofs.Computed.{ints}
use Rattle.jp_tokens.specs.Reading.{int_at, run_at}
use Rattle.jp_syntax.proofs.examples.integers.Goals as goal

pub returns : goal.returns
unfolding int_at run_at
returns c = record {
  zero = ints _ refl;
  positive = ints _ refl;
  negative = ints _ refl;
}
