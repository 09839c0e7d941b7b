use Rattle.jp_tokens.proofs.DepthLaws as law
use Rattle.jp_syntax.proofs.laws.fronts_are_no_deeper.Goals as goal

pub returns-clause-front : goal.returns-clause-front
returns-clause-front c = law.front_no_deeper

pub returns-clause-open : goal.returns-clause-open
returns-clause-open c = law.open_no_deeper

pub returns-clause-length : goal.returns-clause-length
returns-clause-length c = law.depth_within_length
