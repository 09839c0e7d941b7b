use Rattle.jp_syntax.proofs.Endings as law
use Rattle.jp_syntax.proofs.laws.ends_in_no_blank.Goals as goal

pub returns : goal.returns
returns c = law.last_is_no_blank
