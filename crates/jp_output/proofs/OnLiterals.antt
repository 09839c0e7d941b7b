-- What an answer unfolds to compute a line that is written out.
use Rattle.std.specs.Prelude.{⊤}
use Rattle.std.specs.Fmt.{digits}
use Rattle.json.proofs.OnLiterals.{json_on_literals}

unfoldable pub lines_on_literals : ⊤
unfolding json_on_literals digits
lines_on_literals = tt
