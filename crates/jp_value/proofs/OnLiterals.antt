-- What an answer unfolds to compute the bytes of a text, and the order of numbers, that are written out.
use Rattle.std.specs.Prelude.{⊤}
use Rattle.jp_number.proofs.OnLiterals as number
use lib.Utf8.{encode}

unfoldable pub texts_on_literals : ⊤
unfolding encode
texts_on_literals = tt

unfoldable pub numbers_on_literals : ⊤
unfolding encode number.numbers_on_literals
numbers_on_literals = tt
