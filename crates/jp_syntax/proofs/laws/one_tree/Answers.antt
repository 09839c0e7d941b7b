use Rattle.jp_syntax.proofs.OneTree as law
use Rattle.jp_syntax.proofs.laws.one_tree.Goals as goal

pub returns : goal.returns
returns c = record { at_most_one = law.one_tree; one_or_none = law.decided }
