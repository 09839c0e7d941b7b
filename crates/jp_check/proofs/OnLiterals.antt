-- What an answer unfolds to compute the verdict of a tree whose literals are written out.
use Rattle.std.specs.Prelude.{⊤}
use Rattle.jp_types.proofs.OnLiterals.{literals_on_literals}

unfoldable pub queries_on_literals : ⊤
unfolding literals_on_literals
queries_on_literals = tt
