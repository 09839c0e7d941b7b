use Rattle.std.proofs.Common.{refl}
use Rattle.jp_syntax.proofs.Computed.{numbers}
use Rattle.jp_tokens.specs.Reading.{number_at, whole_at, minus_at, fraction_at, exponent_at, int_at, run_at}
use Rattle.jp_syntax.proofs.examples.numbers.Goals as goal

pub returns : goal.returns
unfolding number_at whole_at minus_at fraction_at exponent_at int_at run_at
returns c = record {
  whole = numbers _ refl;
  with_a_fraction = numbers _ refl;
  with_an_exponent = numbers _ refl;
  with_all = numbers _ refl;
}
