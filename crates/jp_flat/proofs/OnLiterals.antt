-- What an answer unfolds to compute the value of tokens that are written out.
use Rattle.std.specs.Prelude.{⊤}
use Rattle.jp_doc.proofs.OnLiterals.{documents_on_literals}

unfoldable pub flat_on_literals : ⊤
unfolding documents_on_literals
flat_on_literals = tt
