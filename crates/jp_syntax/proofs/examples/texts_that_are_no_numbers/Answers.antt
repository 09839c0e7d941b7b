use Rattle.std.proofs.Common.{refl}
use Rattle.jp_syntax.proofs.Computed.{no_numbers}
use Rattle.jp_tokens.specs.Reading.{number_at, whole_at, minus_at, fraction_at, exponent_at, int_at, run_at}
use Rattle.jp_syntax.proofs.examples.texts_that_are_no_numbers.Goals as goal

pub returns : goal.returns
unfolding number_at whole_at minus_at fraction_at exponent_at int_at run_at
returns c = record {
  empty = no_numbers _ refl;
  zeros = no_numbers _ refl;
  points = no_numbers _ refl;
  exponents = no_numbers _ refl;
  other_marks = no_numbers _ refl;
}
