use Rattle.std.proofs.Common.{arith}
use Rattle.std.proofs.lemmas.Grind.{common_steps}
use Rattle.std.proofs.lemmas.Str.{encodes-chars}
use Rattle.jp_output.proofs.unquoted_text.append_text.Goals as goal

pub returns-in_default : goal.returns-in_default
returns-in_default c = rw (encodes-chars c.args.text.now c.utf8.text) (grind (arith, common_steps))
