use Rattle.std.proofs.Common.{sym}
use Rattle.jp_flat.proofs.Fit.{own_text}
use Rattle.jp_flat.proofs.value.FlatNumber.digits.Goals as goal

pub returns : goal.returns
returns c = sym (own_text c.args.self.digits.now c.args.self.fit)
