-- What an answer unfolds to compute the limits of literals that are written out.
use Rattle.std.specs.Prelude.{⊤}
use Rattle.std.specs.Float.Numeral.{scan_numeral}

unfoldable pub literals_on_literals : ⊤
unfolding scan_numeral
literals_on_literals = tt
