use Rattle.std.proofs.Common.{refl, sym}
use Rattle.jp_syntax.specs.inner.Reading.{tested_at}
use Rattle.jp_syntax.proofs.sides.tested_at.Goals as goal

pub returns-in-Some : goal.returns-in-Some
unfolding tested_at
returns-in-Some c = rw (sym c.as_test.ensures, c.in-Some.is) refl
