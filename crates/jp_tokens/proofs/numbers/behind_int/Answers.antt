use Rattle.std.proofs.Common.{refl}
use Rattle.jp_tokens.specs.Reading.{int_at}
use Rattle.jp_tokens.proofs.numbers.behind_int.Goals as goal

pub returns-in-Some-eq0-default : goal.returns-in-Some-eq0-default
unfolding int_at
returns-in-Some-eq0-default c = rw (c.in-Some-eq0-default.ensures, c.in-Some-eq0-default.field-0-0-test) refl
