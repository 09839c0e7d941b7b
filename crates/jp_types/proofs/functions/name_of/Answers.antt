use Rattle.std.proofs.Common.{refl}
use Rattle.std.specs.Str.{chars}
use Rattle.jp_types.proofs.functions.name_of.Goals as goal

pub returns-in-Length : goal.returns-in-Length
unfolding chars
returns-in-Length c = rw c.in-Length.is refl

pub returns-in-Count : goal.returns-in-Count
unfolding chars
returns-in-Count c = rw c.in-Count.is refl

pub returns-in-Match : goal.returns-in-Match
unfolding chars
returns-in-Match c = rw c.in-Match.is refl

pub returns-in-Search : goal.returns-in-Search
unfolding chars
returns-in-Search c = rw c.in-Search.is refl

pub returns-in-Value : goal.returns-in-Value
unfolding chars
returns-in-Value c = rw c.in-Value.is refl

pub returns-in-Xor : goal.returns-in-Xor
unfolding chars
returns-in-Xor c = rw c.in-Xor.is refl

pub returns-in-Distinct : goal.returns-in-Distinct
unfolding chars
returns-in-Distinct c = rw c.in-Distinct.is refl
