-- What an answer unfolds to compute a path that is written out.
use Rattle.std.specs.Prelude.{⊤}
use Rattle.std.specs.Fmt.{digits}
use lib.Utf8.{encode}

unfoldable pub paths_on_literals : ⊤
unfolding digits encode
paths_on_literals = tt
