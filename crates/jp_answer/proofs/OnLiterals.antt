-- What an answer unfolds to compute a run on bytes that are written out.
use Rattle.std.specs.Prelude.{⊤}
use Rattle.jp_doc.proofs.OnLiterals.{documents_on_literals}
use Rattle.jp_output.proofs.OnLiterals.{lines_on_literals}

unfoldable pub runs_on_literals : ⊤
unfolding documents_on_literals lines_on_literals
runs_on_literals = tt
