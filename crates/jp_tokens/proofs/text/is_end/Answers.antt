use Rattle.std.proofs.Common.{rules}
use Rattle.jp_tokens.proofs.Cuts.{at_end}
use Rattle.jp_tokens.proofs.text.is_end.Goals as goal

pub returns : goal.returns
returns c = search (rules, at_end c.args.text.now c.utf8.text)
