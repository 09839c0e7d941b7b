-- The number that a `Number` of the code stands for.
use Rattle.jp_number.specs.Number.{Number, whole, written}
use Rattle.jp_number.specs.declared.number.Number as code
use Rattle.jp_number.specs.declared.number.Number.TheVariants.{Whole, Written}

abbrev pub number_of : code.Number → Number
number_of (Whole z) = whole z
number_of (Written s) = written s.text.now
