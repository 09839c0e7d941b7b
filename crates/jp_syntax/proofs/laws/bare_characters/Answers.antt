use Rattle.jp_syntax.proofs.StringLaws.{bares}
use Rattle.jp_tree.specs.Strings.{quoted}
use Rattle.std.proofs.Common.{refl}
use Rattle.jp_syntax.proofs.laws.bare_characters.Goals as goal

pub returns-clause-double : goal.returns-clause-double
returns-clause-double c = λ t h. quoted 34 t t refl (bares 34 t h)

pub returns-clause-single : goal.returns-clause-single
returns-clause-single c = λ t h. quoted 39 t t refl (bares 39 t h)
