use Rattle.std.proofs.Common.{refl}
use Rattle.jp_syntax.proofs.Computed.{no_ints}
use Rattle.jp_tokens.specs.Reading.{int_at, run_at}
use Rattle.jp_syntax.proofs.examples.texts_that_are_no_integers.Goals as goal

pub returns : goal.returns
unfolding int_at run_at
returns c = record {
  empty = no_ints _ refl;
  zeros = no_ints _ refl;
  signs = no_ints _ refl;
  points = no_ints _ refl;
}
