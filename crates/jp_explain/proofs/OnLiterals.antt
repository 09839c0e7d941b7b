-- `unfolding characters_on_literals` lets the prover compute which characters are escaped.
use Rattle.unicode.proofs.DerivedComputing.{ucd_derived}

unfoldable pub characters_on_literals : Unit {0}
unfolding ucd_derived
characters_on_literals = tt
