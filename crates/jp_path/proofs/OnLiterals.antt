-- What an answer unfolds to compute the query of a path that is written out.
use Rattle.std.specs.Prelude.{⊤}
use Rattle.std.specs.Fmt.{digits}

unfoldable pub paths_on_literals : ⊤
unfolding digits
paths_on_literals = tt
