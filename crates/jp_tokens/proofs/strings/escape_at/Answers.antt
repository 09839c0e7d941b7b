use Rattle.std.proofs.Common.{rules}
use Rattle.std.proofs.lemmas.Bool.{ne_eqb}
use Rattle.jp_tokens.specs.Reading.{escape_at}
use Rattle.jp_tokens.proofs.strings.escape_at.Goals as goal

pub returns-in-Some-escaped : goal.returns-in-Some-escaped
unfolding escape_at
returns-in-Some-escaped c = search (rules, ne_eqb)
