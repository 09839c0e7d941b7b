use Rattle.jp_quote.proofs.Literals.{quoted_string, quoted_in_paths}
use Rattle.jp_quote.proofs.laws.quoted_texts.Goals as goal

pub returns-clause-literal : goal.returns-clause-literal
returns-clause-literal c = quoted_string

pub returns-clause-in_paths : goal.returns-clause-in_paths
returns-clause-in_paths c = quoted_in_paths
