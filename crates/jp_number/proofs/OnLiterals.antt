-- What an answer unfolds to compute the order and the text of numbers that are written out.
use Rattle.std.specs.Prelude.{⊤}
use Rattle.std.specs.Float.Numeral.{scan_numeral}
use Rattle.std.specs.Fmt.{digits}
use Rattle.jp_number.specs.Number.{top, bottom, order}

unfoldable pub numbers_on_literals : ⊤
unfolding order top bottom scan_numeral digits
numbers_on_literals = tt
