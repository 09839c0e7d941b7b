use Rattle.jp_pattern.proofs.PatternsRead as reading
use Rattle.jp_pattern.proofs.PatternsSound.{decided}
use Rattle.jp_regexp.proofs.laws.one_tree.Goals as goal

pub returns : goal.returns
returns c = record { at_most_one = reading.one_tree; one_or_none = decided }
